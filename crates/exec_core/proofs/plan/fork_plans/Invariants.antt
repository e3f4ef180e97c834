use Rattle.std.proofs.Common.{◌≡◌, ◌+◌, ◌≤◌, ◌++◌, [], map, reverse, vec_len, vec_capacity}
use Rattle.traces.specs.Counts.{SameCounts}
use Rattle.traces.specs.View.{Keeps}
use Rattle.exec_core.specs.Held.{AreForksOf}
use Rattle.exec_core.specs.Plans.{planned_of, states_of}
use Rattle.exec_core.proofs.plan.fork_plans.Given as goal

abbrev pub invariant-loop-plan : goal.invariant-loop-plan
invariant-loop-plan g l = let V = g.M.Machine.view in record {
  out : V.is_out l.machine l.s;
  same : V.stands l.machine l.s ≡ V.stands l.fn.machine l.s;
  room : vec_len l.plans + vec_len l.children ≤ vec_capacity l.children;
  plans : map planned_of l.children.items ++ reverse (map (λ p. (p.members, p.change)) l.plans.items) ≡ reverse
      (map (λ p. (p.members, p.change)) l.fn.plans.items);
  forks : AreForksOf V l.fn.machine l.s l.machine (states_of l.children.items);
  counts : SameCounts (V.counts l.fn.machine) (V.counts l.machine);
  keeps : Keeps V l.fn.machine l.machine [];
  len : vec_len l.children + vec_len l.plans ≡ vec_len l.fn.children + vec_len l.fn.plans;
  capacity : vec_capacity l.fn.children ≤ vec_capacity l.children;
}

abbrev pub decreases-loop-plan : goal.decreases-loop-plan
decreases-loop-plan g l = vec_len l.plans
