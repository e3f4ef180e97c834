use Rattle.std.proofs.Common.{◌≡◌, ◌++◌}
use Rattle.work_report.specs.Report.{each_below, split_lines}
use Rattle.work_report.proofs.splits.put_splits.Given as goal

abbrev pub invariant-tests : goal.invariant-tests
invariant-tests l = l.out ≡ l.initial.out ++ each_below (split_lines l.suite l.splits) l.t
