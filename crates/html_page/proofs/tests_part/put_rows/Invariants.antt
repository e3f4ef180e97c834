use Rattle.std.proofs.Common.{◌≡◌, ◌++◌}
use Rattle.work_report.specs.Report.{each_below}
use Rattle.html_page.specs.Tests.{test_row}
use Rattle.html_page.proofs.tests_part.put_rows.Given as goal

abbrev pub invariant-tests : goal.invariant-tests
invariant-tests l = l.out ≡ l.initial.out ++ each_below (test_row l.suite l.matrix l.works) l.t
