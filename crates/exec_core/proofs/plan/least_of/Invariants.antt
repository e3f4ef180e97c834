use Rattle.std.proofs.Common.{◌≡◌, map, take, slice_index}
use Rattle.exec_core.proofs.plan.least_of.Given as goal

abbrev pub invariant-loop-plan : goal.invariant-loop-plan
invariant-loop-plan g l = l.members.items ≡ map (λ p. slice_index p.members 0) (take l.plan-index l.plans)
