use Rattle.std.proofs.Common.{◌<◌, map, refl, sym, ap, ◌∙◌, arith, subst}
use Rattle.std.specs.List.{All}
use Rattle.std.proofs.lemmas.List.{take_all}
use Rattle.change_classes.specs.Keyed.{IsOrderOf}
use Rattle.change_classes.proofs.Told.{one_more}
use Rattle.change_classes.proofs.Runs.{holds_equal}
use Rattle.change_classes.proofs.keyed.classes_keyed.Goals as goal

pub first_in-requires-clause-within : goal.first_in-requires-clause-within
first_in-requires-clause-within g c =
    subst (λ n. All (λ e. e.1 < n) c.run_of-run.result.now) c.requires.keyed
    (c.run_of-run.ensures c.args.keys.now (subst (IsOrderOf c.args.keys.now) (sym c.deref.ensures.value) c.in_ok-order.ensures)).within

pub loop-at-preserved : goal.loop-at-preserved
loop-at-preserved g c = λ equal acts agree.
    one_more _ c.args.items.now _ _ _ _ _ c.loop-at-test.true c.index-items-at.is (c.loop-at.invariant equal acts agree)
    (c.first_in.ensures equal acts
    (holds_equal equal c.args.keys.now c.args.items.now c.loop-at.at _ _ c.run_of-run.result.now c.requires.keyed agree c.loop-at-test.true c.index-items-at.is
    refl (c.run_of-run.ensures c.args.keys.now (subst (IsOrderOf c.args.keys.now) (sym c.deref.ensures.value) c.in_ok-order.ensures))))
    c.in_ok-push.ensures.items

pub returns : goal.returns
returns g c = λ equal acts agree.
    c.from_vec.ensures ∙ c.loop-at.invariant equal acts agree ∙ ap (map _) (take_all _ c.args.items.now (omega (arith, c.loop-at-test.false)))
