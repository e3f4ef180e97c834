use Rattle.std.proofs.Common.{◌≡◌, drop}
use Rattle.machine_form.specs.Edge.{phi_writes}
use Rattle.lane_eval.proofs.WriteSteps.{after_front}
use Rattle.lane_eval.proofs.edge.phi_writes.Given as goal

abbrev pub invariant-loop-i : goal.invariant-loop-i
invariant-loop-i g l = after_front l.writes (phi_writes (g.V.View.state l.s) l.from (drop l.i l.instrs) (drop l.i l.results)) ≡ phi_writes (g.V.View.state l.s) l.from l.instrs l.results
