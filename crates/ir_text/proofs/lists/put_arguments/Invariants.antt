use Rattle.std.proofs.Common.{◌≡◌, map, take}
use Rattle.ir_text.specs.Parts.{typed_operand, with_commas}
use Rattle.ir_text.specs.Printing.{with_tokens}
use Rattle.ir_text.proofs.lists.put_arguments.Given as goal

abbrev pub invariant-each : goal.invariant-each
invariant-each l = l.sheet ≡ with_tokens l.initial.sheet (with_commas (map typed_operand (take l.i l.arguments)))
