use Rattle.std.proofs.Common.{append_assoc}
use Rattle.suite_reduce.specs.Text.{subsumed_line}
use Rattle.work_report.proofs.MoreLines.{each_more}
use Rattle.suite_reduce.proofs.text.put_all.Goals as goal

pub mutants-preserved : goal.mutants-preserved
mutants-preserved c =
    rw (c.in_ok-put_subsumed.ensures, c.mutants.invariant, each_more (subsumed_line c.args.matrix.now c.args.least.now) c.mutants.b) (simp append_assoc)
