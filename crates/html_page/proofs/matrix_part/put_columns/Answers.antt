use Rattle.std.proofs.Common.{append_assoc}
use Rattle.line_parts.proofs.MoreParts.{flat_more}
use Rattle.html_page.specs.Matrix.{column_of}
use Rattle.html_page.proofs.matrix_part.put_columns.Goals as goal

pub tests-preserved : goal.tests-preserved
tests-preserved c =
    rw (
      c.in_ok-put_column.ensures,
      c.tests.invariant,
      flat_more (column_of) c.args.tests.now c.tests.test-index c.test-item.result c.tests-test.true c.test-item.is,
    )
    (simp append_assoc)
