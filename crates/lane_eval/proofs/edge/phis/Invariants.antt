use Rattle.std.proofs.Common.{◌≡◌, ◌+◌, drop}
use Rattle.machine_form.specs.After.{phis_in}
use Rattle.lane_eval.proofs.edge.phis.Given as goal

abbrev pub invariant-loop-i : goal.invariant-loop-i
invariant-loop-i l = l.i + phis_in (drop l.i l.instrs) ≡ phis_in l.instrs
