use Rattle.std.proofs.Common.{append_assoc}
use Rattle.html_page.proofs.lines_part.put_row.Goals as goal

pub returns : goal.returns
returns c =
    rw (
      c.in_ok-push.ensures.ok,
      c.in_ok-put_at-2.ensures,
      c.in_ok-put_at.ensures,
      c.in_ok-extend-3.ensures.ok,
      c.in_ok-put_text.ensures,
      c.as_slice.ensures,
      c.in_ok-extend-2.ensures.ok,
      c.in_ok-put_number.ensures,
      c.in_ok-extend.ensures.ok,
      c.in_ok-put_heading.ensures,
    )
    (simp append_assoc)
