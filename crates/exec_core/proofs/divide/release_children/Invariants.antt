use Rattle.std.proofs.Common.{map}
use Rattle.traces.specs.Counts.{SameCounts}
use Rattle.exec_core.specs.Held.{AreLeftOf}
use Rattle.exec_core.specs.Plans.{states_of}
use Rattle.exec_core.proofs.divide.release_children.Given as goal

abbrev pub invariant-loop-child : goal.invariant-loop-child
invariant-loop-child g l = let V = g.M.Machine.view in record {
  left : AreLeftOf V l.fn.machine (map V.number (states_of l.fn.children.items)) l.machine (states_of l.children.items);
  counts : SameCounts (V.counts l.fn.machine) (V.counts l.machine);
}

abbrev pub decreases-loop-child : goal.decreases-loop-child
decreases-loop-child g l = goal.left-loop-child g l
