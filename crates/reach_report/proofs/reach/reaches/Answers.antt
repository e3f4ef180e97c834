use Rattle.std.proofs.Common.{◌≡◌, ℕ, ◌+◌, length, get_or, None, sym, ap, ◌∙◌, subst, arith, refl}
use Rattle.code_form.specs.Variant.{mutants_of, variant_of, number_at}
use Rattle.reach_report.specs.Pass.{with_values}
use Rattle.reach_report.specs.Least.{AreLeast, IsLeast}
use Rattle.reach_report.proofs.Firsts.{least_more, other_variants}
use Rattle.reach_report.proofs.Agreeing.{reach_is}
use Rattle.reach_report.proofs.reach.reaches.Goals as goal

pub places-preserved : goal.places-preserved
places-preserved c =
    let variants = c.args.variants.now in let ms = c.mutants_at-mutants.result.now in let table = c.places.table.items in
    subst (AreLeast (variant_of variants) c.args.visits.now (mutants_of variants) (c.places.at + 1))
    (sym (c.lower_each.ensures ∙ ap (λ o. with_values o table ms) c.from_one.ensures))
    (least_more (variant_of variants) c.args.visits.now (mutants_of variants) c.places.at table ms (get_or c.args.visits.now c.places.at None) refl
    (λ m. c.mutants_at-mutants.ensures.exact m) c.places.invariant)

pub returns : goal.returns
returns c = λ T same mutants variants are.
    let visits = c.args.visits.now in let inv = c.places.invariant in
    let all : c.places.at ≡ length visits = omega (arith, c.places-test.false) in
    let unchanged : (at : ℕ) → T.variant 0 at ≡ 0 = (λ at. variants 0 at ∙ ap (λ o. number_at o at) c.mutants.ensures.unchanged) in record {
      count = inv.count ∙ sym mutants;
      each = λ m h. reach_is T same unchanged visits are m (get_or c.places.table.items m None)
          (subst (λ n. IsLeast T.variant visits n m (get_or c.places.table.items m None)) all
          (other_variants (variant_of c.args.variants.now) visits T.variant variants c.places.at m (get_or c.places.table.items m None) (inv.each m (omega (arith, mutants)))));
    }
