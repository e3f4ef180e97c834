use Rattle.std.proofs.Common.{◌≡◌, ◌++◌}
use Rattle.work_report.specs.Report.{each_below, work_line}
use Rattle.work_report.proofs.works.put_each.Given as goal

abbrev pub invariant-tests : goal.invariant-tests
invariant-tests l = l.out ≡ l.initial.out ++ each_below (work_line l.suite l.works) l.t
