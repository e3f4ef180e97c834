use Rattle.std.proofs.Common.{◌≡◌, ◌≢◌, ℕ, ◌<◌, nat_eq, length, slice_index, arith, ap, subst, sym, ◌∙◌, ⊎_elim}
use Rattle.std.proofs.lemmas.Bool.{true≢false, eq-eqb, cases_lt}
use Rattle.std.proofs.lemmas.List.{length-set, get_or-set_same, get_or-set_other}
use Rattle.std.proofs.lemmas.Map.Keys.{apart_from_distinct}
use Rattle.exec_core.proofs.plan.write_classes.Goals as goal

pub loop-at-preserved : goal.loop-at-preserved
loop-at-preserved c =
    let inv = c.loop-at.invariant in let at = c.loop-at.at in let table = c.loop-at.table.items in
    let variants = c.args.variants.now in let classes = c.args.classes.now in
    let v = slice_index variants at in let x = slice_index classes at in
    let inside : v < length table = (let a = c.greatest-top.ensures at 0 c.loop-at-test.true in omega (arith, inv.size, a)) in
    record {
      size = (let n = length-set table v x in omega (arith, n, inv.size));
      class = λ i h. ⊎_elim (λ (l : i < at).
          let apart = apart_from_distinct nat_eq variants i at 0 c.requires.distinct l c.loop-at-test.true in
          get_or-set_other table v (slice_index variants i) x 0 (λ e. true≢false (sym (eq-eqb _ _ e) ∙ apart)) ∙ inv.class i l)
          (λ l. let e : i ≡ at = omega arith in
          ap (λ j. slice_index (Rattle.std.proofs.Common.slice_set table v x) (slice_index variants j)) e ∙ get_or-set_same table v x 0 inside
          ∙ ap (slice_index classes) (sym e)) (cases_lt i at);
    }
