use Rattle.std.proofs.Common.{append_assoc}
use Rattle.work_report.proofs.MoreLines.{each_more}
use Rattle.kill_matrix.specs.Score.{letter_of}
use Rattle.html_page.specs.Matrix.{cell_of}
use Rattle.html_page.proofs.matrix_part.put_cells.Goals as goal

pub tests-preserved : goal.tests-preserved
tests-preserved c =
    rw (
      c.in_ok-extend.ensures.ok,
      c.tests.invariant,
      each_more (λ t. cell_of (letter_of c.args.matrix.now c.args.m t)) c.tests.t,
      c.cell.ensures,
      c.letter.ensures,
    )
    (simp append_assoc)
