use Rattle.std.proofs.Common.{◌≡◌, [], ◌∷◌, reverse, length}
use Rattle.ir_grammar.specs.Groups.{scan}
use Rattle.ir_reader_parts.proofs.groups.close.Given as goal

abbrev pub invariant-turns : goal.invariant-turns
invariant-turns l = scan (reverse l.stack.items) l.cursor ≡ scan (l.closer ∷ []) l.initial.cursor

abbrev pub decreases-turns : goal.decreases-turns
decreases-turns l = length l.cursor
