use Rattle.std.proofs.Common.{◌≡◌, map, take}
use Rattle.ir_text.specs.Parts.{constant_index, behind_commas}
use Rattle.ir_text.specs.Printing.{with_tokens}
use Rattle.ir_text.proofs.operands.put_indices.Given as goal

abbrev pub invariant-each : goal.invariant-each
invariant-each l = l.sheet ≡ with_tokens l.initial.sheet (behind_commas (map constant_index (take l.index-index l.indices)))
