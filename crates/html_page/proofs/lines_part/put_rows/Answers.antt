use Rattle.html_page.proofs.Rows.{row-turn, all-rows}
use Rattle.html_page.proofs.lines_part.put_rows.Goals as goal

pub each-preserved : goal.each-preserved
each-preserved c =
    row-turn c.args.matrix.now c.args.all.now c.args.lines.now c.each.out c.args.out.now c.each.k c.put_row.new.out c.index-lines-k.result
    c.each-test.true c.index-lines-k.is c.each.invariant c.in_ok-put_row.ensures

pub returns : goal.returns
returns c = all-rows c.args.matrix.now c.args.all.now c.args.lines.now c.each.out c.args.out.now c.each.k c.each-test.false c.each.invariant
