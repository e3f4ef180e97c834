use Rattle.std.proofs.Common.{append_assoc}
use Rattle.work_report.proofs.MoreLines.{each_more}
use Rattle.html_page.specs.Tests.{test_row}
use Rattle.html_page.proofs.tests_part.put_rows.Goals as goal

pub tests-preserved : goal.tests-preserved
tests-preserved c = rw (c.in_ok-put_test.ensures, c.tests.invariant, each_more (test_row c.args.suite.now c.args.matrix.now c.args.works.now) c.tests.t) (simp append_assoc)
