use Rattle.std.proofs.Common.{map}
use Rattle.traces.specs.Counts.{SameCounts}
use Rattle.exec_core.specs.Held.{AreLeftOf}
use Rattle.exec_core.specs.Executions.{state_numbers}
use Rattle.exec_core.proofs.execution.release_executions.Given as goal

abbrev pub invariant-loop-l : goal.invariant-loop-l
invariant-loop-l g l = let V = g.M.Machine.view in record {
  left : AreLeftOf V l.fn.machine (state_numbers V l.fn.lives.items) l.machine (map (λ x. x.state) l.rest.items);
  counts : SameCounts (V.counts l.fn.machine) (V.counts l.machine);
}

abbrev pub decreases-loop-l : goal.decreases-loop-l
decreases-loop-l g l = goal.left-loop-l g l
