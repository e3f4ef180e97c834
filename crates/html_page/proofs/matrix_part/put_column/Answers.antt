use Rattle.std.proofs.Common.{append_assoc}
use Rattle.html_page.proofs.matrix_part.put_column.Goals as goal

pub returns : goal.returns
returns c =
    rw (
      c.in_ok-put_text.ensures,
      c.as_slice.ensures,
      c.in_ok-extend.ensures.ok,
    )
    (simp append_assoc)
