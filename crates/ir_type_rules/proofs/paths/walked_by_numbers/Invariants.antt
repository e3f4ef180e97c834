use Rattle.std.proofs.Common.{◌≡◌, map, take, slice_get}
use Rattle.std.specs.List.{fold}
use Rattle.ir_rules.specs.Paths.{index_operand}
use Rattle.ir_type_rules.specs.Walk.{typed_at, next_type}
use Rattle.ir_type_rules.proofs.paths.walked_by_numbers.Given as goal

abbrev pub invariant-each : goal.invariant-each
invariant-each l =
    typed_at l.types.types l.at ≡ fold (next_type l.types.defs) (slice_get l.types.types l.from) (map index_operand (take l.index-index l.indices))
