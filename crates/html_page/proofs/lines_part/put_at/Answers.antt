use Rattle.std.proofs.Common.{append_assoc}
use Rattle.line_parts.proofs.MoreParts.{flat_more}
use Rattle.html_page.specs.Instructions.{asked_one}
use Rattle.html_page.proofs.lines_part.put_at.Goals as goal

pub each-preserved : goal.each-preserved
each-preserved c =
    rw (
      c.in_ok-put_asked.ensures,
      c.each.invariant,
      flat_more (asked_one c.args.matrix.now c.args.place c.args.killed) c.args.all.now c.each.listed-index c.listed-item.result c.each-test.true c.listed-item.is,
    )
    (simp append_assoc)
