use Rattle.std.proofs.Common.{◌≡◌, map, take}
use Rattle.shared_machine.proofs.writes.addresses.Given as goal

abbrev pub invariant-loop-address : goal.invariant-loop-address
invariant-loop-address l = l.all.items ≡ map (λ b. b.0) (take l.address-index l.bytes)
