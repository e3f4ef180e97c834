use Rattle.std.proofs.Common.{◌≡◌, ◌++◌}
use Rattle.work_report.specs.Report.{each_below}
use Rattle.html_page.specs.Tests.{killed_one}
use Rattle.html_page.proofs.tests_part.put_kills.Given as goal

abbrev pub invariant-mutants : goal.invariant-mutants
invariant-mutants l = l.out ≡ l.initial.out ++ each_below (killed_one l.matrix l.t) l.m
