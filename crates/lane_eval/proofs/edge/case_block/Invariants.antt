use Rattle.std.proofs.Common.{◌≡◌, drop}
use Rattle.machine_form.specs.Edge.{case_of}
use Rattle.lane_eval.proofs.edge.case_block.Given as goal

abbrev pub invariant-loop-case : goal.invariant-loop-case
invariant-loop-case l = case_of (drop l.case-index l.cases) l.word l.other ≡ case_of l.cases l.word l.other
