use Rattle.std.proofs.Common.{◌≡◌, length}
use Rattle.ir_grammar.specs.Rule.{onto, further}
use Rattle.ir_grammar.specs.Starts.{sees_type}
use Rattle.ir_grammar.specs.Operands.{typed_operand}
use Rattle.ir_reader_parts.proofs.operands.further_operands.Given as goal

abbrev pub invariant-turns : goal.invariant-turns
invariant-turns l = onto l.found ((further sees_type typed_operand).parse l.cursor) ≡ (further sees_type typed_operand).parse l.initial.cursor

abbrev pub decreases-turns : goal.decreases-turns
decreases-turns l = length l.cursor
