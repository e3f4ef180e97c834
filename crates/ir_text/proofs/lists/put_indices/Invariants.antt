use Rattle.std.proofs.Common.{◌≡◌, map, take}
use Rattle.ir_text.specs.Parts.{typed_operand, behind_commas}
use Rattle.ir_text.specs.Printing.{with_tokens}
use Rattle.ir_text.proofs.lists.put_indices.Given as goal

abbrev pub invariant-each : goal.invariant-each
invariant-each l = l.sheet ≡ with_tokens l.initial.sheet (behind_commas (map typed_operand (take l.index-index l.indices)))
