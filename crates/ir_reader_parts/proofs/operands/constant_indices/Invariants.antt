use Rattle.std.proofs.Common.{◌≡◌, length}
use Rattle.ir_grammar.specs.Rule.{onto, further}
use Rattle.ir_grammar.specs.Starts.{sees_type}
use Rattle.ir_grammar.specs.Operands.{constant_index}
use Rattle.ir_reader_parts.proofs.operands.constant_indices.Given as goal

abbrev pub invariant-turns : goal.invariant-turns
invariant-turns l = onto l.found ((further sees_type constant_index).parse l.cursor) ≡ (further sees_type constant_index).parse l.initial.cursor

abbrev pub decreases-turns : goal.decreases-turns
decreases-turns l = length l.cursor
