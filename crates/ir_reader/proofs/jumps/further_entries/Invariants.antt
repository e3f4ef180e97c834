use Rattle.std.proofs.Common.{◌≡◌, length}
use Rattle.ir_grammar.specs.Rule.{onto, further}
use Rattle.ir_grammar.specs.Lexeme.{sees_sign}
use Rattle.ir_grammar.specs.Ops.{entry}
use Rattle.ir_reader.proofs.jumps.further_entries.Given as goal

abbrev pub invariant-turns : goal.invariant-turns
invariant-turns l = onto l.found ((further (sees_sign 91) entry).parse l.cursor) ≡ onto l.initial.found ((further (sees_sign 91) entry).parse l.initial.cursor)

abbrev pub decreases-turns : goal.decreases-turns
decreases-turns l = length l.cursor
