use Rattle.std.proofs.Common.{map, ap, ◌∙◌, arith}
use Rattle.std.proofs.lemmas.List.{take_all}
use Rattle.change_classes.proofs.Told.{one_more}
use Rattle.change_classes.proofs.first.classes_by.Goals as goal

pub loop-item-preserved : goal.loop-item-preserved
loop-item-preserved g c = λ equal acts.
    one_more _ c.args.items.now _ _ _ _ _ c.loop-item-test.true c.item-item.is (c.loop-item.invariant equal acts)
    (c.first_number.ensures equal acts) c.in_ok-push.ensures.items

pub returns : goal.returns
returns g c = λ equal acts.
    c.from_vec.ensures ∙ c.loop-item.invariant equal acts ∙ ap (map _) (take_all _ c.args.items.now (omega (arith, c.loop-item-test.false)))
