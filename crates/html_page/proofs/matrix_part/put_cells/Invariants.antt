use Rattle.std.proofs.Common.{◌≡◌, ◌++◌}
use Rattle.work_report.specs.Report.{each_below}
use Rattle.kill_matrix.specs.Score.{letter_of}
use Rattle.html_page.specs.Matrix.{cell_of}
use Rattle.html_page.proofs.matrix_part.put_cells.Given as goal

abbrev pub invariant-tests : goal.invariant-tests
invariant-tests l = l.out ≡ l.initial.out ++ each_below (λ t. cell_of (letter_of l.matrix l.m t)) l.t
