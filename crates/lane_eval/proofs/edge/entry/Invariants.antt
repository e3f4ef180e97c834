use Rattle.std.proofs.Common.{◌≡◌, drop}
use Rattle.machine_form.specs.Edge.{entry_of}
use Rattle.lane_eval.proofs.edge.entry.Given as goal

abbrev pub invariant-loop-label : goal.invariant-loop-label
invariant-loop-label l = entry_of (drop l.label-index l.entries) l.from ≡ entry_of l.entries l.from
