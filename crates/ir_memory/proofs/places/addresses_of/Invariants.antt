use Rattle.std.proofs.Common.{◌≡◌, [], map, take}
use Rattle.std.specs.List.{fold}
use Rattle.ir_names.specs.Names.{with_first}
use Rattle.ir_memory.specs.Places.{placed, named}
use Rattle.ir_memory.proofs.places.addresses_of.Given as goal

abbrev pub invariant-each : goal.invariant-each
invariant-each l = l.table ≡ fold with_first [] (map (λ p. named (placed p)) (take l.global-index l.list))
