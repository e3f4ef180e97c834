use Rattle.std.proofs.Common.{map}
use Rattle.traces.specs.Counts.{SameCounts}
use Rattle.exec_core.specs.Analysed.{class_numbers}
use Rattle.exec_core.specs.Held.{AreLeftOf}
use Rattle.shared_analysis.proofs.release.release_all.Given as goal

abbrev pub invariant-loop-class : goal.invariant-loop-class
invariant-loop-class g l = let V = g.M.Machine.view in record {
  left : AreLeftOf V l.fn.machine (class_numbers V l.fn.classes) l.machine (map (λ c. c.state) l.rest.items);
  counts : SameCounts (V.counts l.fn.machine) (V.counts l.machine);
}

abbrev pub decreases-loop-class : goal.decreases-loop-class
decreases-loop-class g l = goal.left-loop-class g l
