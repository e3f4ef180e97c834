use Rattle.std.proofs.Common.{◌≡◌, map, take}
use Rattle.machine_parts.proofs.boxed.copied_signs.Given as goal

abbrev pub invariant-loop-port : goal.invariant-loop-port
invariant-loop-port g l = l.signs ≡ map (λ q. (goal.Port-dyn g (q.vtable, q.value)).sign q.value) (take l.port-index l.ports)
