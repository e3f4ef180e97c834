use Rattle.std.proofs.Common.{rules, get_or, refl, sym, ◌∙◌}
use Rattle.std.proofs.lemmas.Fn.{Called-at_two}
use Rattle.std.proofs.lemmas.List.{get_or_default}
use Rattle.std.proofs.lemmas.List.MinMax.{IsFirstBest-keeps, IsFirstBest-takes}
use Rattle.picker.proofs.ordered.first_best.Goals.{then-beats, else-beats}
use Rattle.picker.proofs.ordered.first_best.Goals as goal

pub loop-at-preserved : goal.loop-at-preserved
loop-at-preserved g c =
    let x = get_or c.args.live.now c.loop-at.at (record { step = 0; least = 0; members = 0 }) in
    let y = c.loop-at.top in
    elim c.if-beats.branch [
      | then-beats w ↦ record {
        within = search rules;
        top = search rules;
        best = λ order acts o. let test = (acts x y _ _ (Called-at_two _ ((g.met.F.FnMut.1.post_iff _ _ _).0 c.beats.ensures).1 refl)).1 in
            rw w.best-is (IsFirstBest-takes o _ _ _ x y (c.loop-at.invariant.best order acts o) (search rules) (search (rules, get_or_default))
            (search (rules, get_or_default)) (sym test ∙ w.if-beats.true));
      }
      | else-beats w ↦ record {
        within = search rules;
        top = search rules;
        best = λ order acts o. let test = (acts x y _ _ (Called-at_two _ ((g.met.F.FnMut.1.post_iff _ _ _).0 c.beats.ensures).1 refl)).1 in
            rw w.best-is (IsFirstBest-keeps o _ _ _ x y (c.loop-at.invariant.best order acts o) (search rules) (search (rules, get_or_default))
            (search (rules, get_or_default)) (sym test ∙ w.if-beats.false));
      }
    ]
