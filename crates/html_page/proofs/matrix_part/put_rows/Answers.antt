use Rattle.std.proofs.Common.{append_assoc}
use Rattle.work_report.proofs.MoreLines.{each_more}
use Rattle.html_page.specs.Matrix.{mutant_row}
use Rattle.html_page.proofs.matrix_part.put_rows.Goals as goal

pub mutants-preserved : goal.mutants-preserved
mutants-preserved c = rw (c.in_ok-put_mutant.ensures, c.mutants.invariant, each_more (mutant_row c.args.matrix.now) c.mutants.m) (simp append_assoc)
