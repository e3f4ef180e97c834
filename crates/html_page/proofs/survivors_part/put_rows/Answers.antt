use Rattle.std.proofs.Common.{append_assoc}
use Rattle.line_parts.proofs.MoreParts.{flat_more}
use Rattle.html_page.specs.Survivors.{survivor_of}
use Rattle.html_page.proofs.survivors_part.put_rows.Goals as goal

pub each-preserved : goal.each-preserved
each-preserved c =
    rw (
      c.in_ok-put_survivor.ensures,
      c.each.invariant,
      flat_more (survivor_of c.args.matrix.now c.args.lines.now) c.args.all.now c.each.listed-index c.listed-item.result c.each-test.true c.listed-item.is,
    )
    (simp append_assoc)
