use Rattle.commands.proofs.PageLemmas.{listed_turn, all_listed}
use Rattle.commands.proofs.page_files.listed_of.Goals as goal

pub each-preserved : goal.each-preserved
each-preserved c =
    listed_turn c.args.texts.now c.args.rows.now c.each.all _ c.each.k c.push.new.self c.in_ok-listed_at.field-0 _ c.each-test.true c.each.invariant
    c.in_ok-push.ensures.ok c.in_ok-listed_at.ensures

pub returns : goal.returns
returns c = all_listed c.args.texts.now c.args.rows.now c.each.all _ c.each.k c.each-test.false c.each.invariant
