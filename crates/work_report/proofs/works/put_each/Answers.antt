use Rattle.std.proofs.Common.{append_assoc}
use Rattle.work_report.specs.Report.{work_line}
use Rattle.work_report.proofs.MoreLines.{each_more}
use Rattle.work_report.proofs.works.put_each.Goals as goal

pub tests-preserved : goal.tests-preserved
tests-preserved c = rw (c.in_ok-put_work.ensures, c.tests.invariant, each_more (work_line c.args.suite.now c.args.works.now) c.tests.t) (simp append_assoc)
