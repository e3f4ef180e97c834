use Rattle.std.proofs.Common.{append_assoc}
use Rattle.work_report.specs.Report.{split_lines}
use Rattle.work_report.proofs.MoreLines.{each_more}
use Rattle.work_report.proofs.splits.put_splits.Goals as goal

pub tests-preserved : goal.tests-preserved
tests-preserved c = rw (c.in_ok-put_test.ensures, c.tests.invariant, each_more (split_lines c.args.suite.now c.args.splits.now) c.tests.t) (simp append_assoc)
