use Rattle.std.proofs.Common.{append_assoc}
use Rattle.html_page.proofs.tests_part.put_tests.Goals as goal

pub returns : goal.returns
returns c =
    rw (
      c.in_ok-extend-4.ensures.ok,
      c.in_ok-put_rows.ensures,
      c.in_ok-extend-3.ensures.ok,
      c.in_ok-extend-2.ensures.ok,
      c.in_ok-extend.ensures.ok,
    )
    (simp append_assoc)
