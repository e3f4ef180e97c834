use Rattle.std.proofs.Common.{◌≡◌, ◌++◌}
use Rattle.work_report.specs.Report.{each_below}
use Rattle.html_page.specs.Matrix.{mutant_row}
use Rattle.html_page.proofs.matrix_part.put_rows.Given as goal

abbrev pub invariant-mutants : goal.invariant-mutants
invariant-mutants l = l.out ≡ l.initial.out ++ each_below (mutant_row l.matrix) l.m
