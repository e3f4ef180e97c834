use Rattle.std.proofs.Common.{◌≡◌, ◌++◌}
use Rattle.work_report.specs.Report.{each_below}
use Rattle.suite_reduce.specs.Text.{subsumed_line}
use Rattle.suite_reduce.proofs.text.put_all.Given as goal

abbrev pub invariant-mutants : goal.invariant-mutants
invariant-mutants l = l.out ≡ l.initial.out ++ each_below (subsumed_line l.matrix l.least) l.b
