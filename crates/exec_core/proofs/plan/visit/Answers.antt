use Rattle.std.proofs.Common.{arith, sym, ap, ◌∙◌}
use Rattle.exec_core.proofs.TriedLemmas.{at_none, at_found, originals, not_past, with_first}
use Rattle.exec_core.proofs.plan.visit.Goals as goal

pub returns-in-None-clause-next : goal.returns-in-None-clause-next
returns-in-None-clause-next c v touched i r l t e a f =
    (at_none v _ touched c.requires.members r i _ l a (λ k h x. c.in-None.ensures.none k h (x ∙ t)), f)

pub returns-in_ok-add-in-Some-clause-next : goal.returns-in_ok-add-in-Some-clause-next
returns-in_ok-add-in-Some-clause-next c v touched i r l t e a f =
    let ms = c.args.members.now in let n = c.in-Some.found in let w = c.in-Some.ensures.within in let h = c.in-Some.ensures.there ∙ sym t in
    let o = originals v ms touched c.requires.members r i _ l a n w h in
    let p = not_past v ms touched c.requires.members r i _ l a n w h in
    let mid = c.in_ok-add_originals-in-Some.ensures.variants v ms c.requires.members p (omega (arith, w)) o f in (
      at_found v ms touched c.requires.members r i _ l a n w h,
      c.in_ok-add-in-Some.ensures.added ∙ with_first v ms c.requires.members n _ _ w mid (e ∙ ap v (sym c.in-Some.ensures.there)),
    )
