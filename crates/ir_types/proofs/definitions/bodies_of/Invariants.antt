use Rattle.std.proofs.Common.{◌≡◌, map, take}
use Rattle.std.specs.List.{flat_map}
use Rattle.ir_types.specs.Definitions as spec
use Rattle.ir_types.proofs.definitions.bodies_of.Given as goal

abbrev pub invariant-each : goal.invariant-each
invariant-each l = map (λ b. b.now) l.bodies ≡ flat_map spec.body_of (take l.item-index l.items)
