use Rattle.std.proofs.Common.{◌≡◌, ◌++◌}
use Rattle.work_report.specs.Report.{each_below, mutant_line}
use Rattle.work_report.proofs.score.put_mutants.Given as goal

abbrev pub invariant-mutants : goal.invariant-mutants
invariant-mutants l = l.out ≡ l.initial.out ++ each_below (mutant_line l.matrix) l.m
