use Rattle.std.proofs.Common.{◌≡◌, length}
use Rattle.ir_grammar.specs.Rule.{onto, many}
use Rattle.ir_grammar.specs.Starts.{sees_type}
use Rattle.ir_grammar.specs.Ops.{case}
use Rattle.ir_reader.proofs.jumps.cases.Given as goal

abbrev pub invariant-turns : goal.invariant-turns
invariant-turns l = onto l.found ((many sees_type case).parse l.cursor) ≡ (many sees_type case).parse l.initial.cursor

abbrev pub decreases-turns : goal.decreases-turns
decreases-turns l = length l.cursor
