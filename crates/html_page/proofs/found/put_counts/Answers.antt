use Rattle.std.proofs.Common.{append_assoc}
use Rattle.html_page.proofs.found.put_counts.Goals as goal

pub returns : goal.returns
returns c =
    rw (
      c.in_ok-extend-3.ensures.ok,
      c.in_ok-put_thousands-2.ensures,
      c.in_ok-extend-2.ensures.ok,
      c.in_ok-put_thousands.ensures,
      c.in_ok-extend.ensures.ok,
    )
    (simp append_assoc)
