use Rattle.std.proofs.Common.{◌≡◌, map, take}
use Rattle.ir_rules.specs.Paths.{index_operand}
use Rattle.ir_op_codes.proofs.words.index_operands.Given as goal

abbrev pub invariant-each : goal.invariant-each
invariant-each l = l.list ≡ map index_operand (take l.index-index l.indices)
