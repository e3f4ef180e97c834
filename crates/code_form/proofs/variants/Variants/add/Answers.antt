use Rattle.std.proofs.Common.{◌≡◌, ◌<◌, false, length, sym, subst, arith}
use Rattle.am_base.specs.declared.limits.TheConstants.{MAX_MUTANTS, MAX_REPLACEMENTS}
use Rattle.code_form.specs.Places.{instr_at}
use Rattle.code_form.specs.Variant.{Table, has_place, places_by, mutants_of}
use Rattle.code_form.specs.Replacements.{mutants_in}
use Rattle.code_form.proofs.Lists.{rising_few}
use Rattle.code_form.proofs.Added.{defined, none-at, chosen-more, filed-add, adds, mutants-adds, chosen-adds, places-adds, fits-adds}
use Rattle.code_form.proofs.Lookups.{read_or}
use Rattle.code_form.proofs.variants.Variants.add.Goals as goal

pub add_at-requires-clause-few : goal.add_at-requires-clause-few
add_at-requires-clause-few c =
    let at = c.args.place.0 in
    rising_few (mutants_in c.self.inside.places.items at) MAX_MUTANTS (c.self.invariant.rising at)
    (λ m h. let l = defined c.self.inside.chosen.items m at ((c.self.invariant.exact at m).0 h) in omega (arith, l, c.self.invariant.few))

pub add_at-requires-clause-absent : goal.add_at-requires-clause-absent
add_at-requires-clause-absent c h =
    let free = subst (λ (t : Table). has_place (places_by t c.args.m) c.args.place.0 ≡ false) (sym c.self.view_is) c.requires.free in
    let l = (c.self.invariant.exact c.args.place.0 c.args.m).0 h in
    omega (arith, l, none-at _ c.args.place.0 free)

pub invariant_of-self-2 : goal.invariant_of-self-2
invariant_of-self-2 c =
    let free = subst (λ (t : Table). has_place (places_by t c.args.m) c.args.place.0 ≡ false) (sym c.self.view_is) c.requires.free in
    let l = subst (λ (t : Table). c.args.m < mutants_of t) (sym c.self.view_is) c.requires.defined in
    let more = chosen-more c.self.inside.chosen.items c.args.m _ _ (c.args.place.0, c.in_ok-number.number) l c.index_mut-choices.ensures.value c.push.ensures in
    filed-add _ _ _ _ _ _ _ _ c.self.invariant c.in_ok-number.ensures.added _ more free l c.requires.some

pub returns-clause-added : goal.returns-clause-added
returns-clause-added c =
    let free = subst (λ (t : Table). has_place (places_by t c.args.m) c.args.place.0 ≡ false) (sym c.self.view_is) c.requires.free in
    let few = subst (λ (t : Table). length (places_by t c.args.m) < MAX_REPLACEMENTS) (sym c.self.view_is) c.requires.few in
    let l = subst (λ (t : Table). c.args.m < mutants_of t) (sym c.self.view_is) c.requires.defined in
    let more = chosen-more c.self.inside.chosen.items c.args.m _ _ (c.args.place.0, c.in_ok-number.number) l c.index_mut-choices.ensures.value c.push.ensures in
    let read = rw c.as_slice.ensures at c.index-as_slice-at.is in
    let is : c.index-as_slice-at.result ≡ instr_at c.args.code.now c.args.place.0 =
    read_or c.args.code.now.instrs c.args.place.0 c.index-as_slice-at.result _ c.requires.within read in
    adds _ _ _ _ _ _ _ _ c.self.invariant c.in_ok-number.ensures.added _ more free l c.args.code.now c.args.self.now c.self.view_is is few

pub returns-clause-fits : goal.returns-clause-fits
returns-clause-fits c = fits-adds _ _ _ c.args.m _ _ (returns-clause-added c)

pub returns-clause-mutants : goal.returns-clause-mutants
returns-clause-mutants c = mutants-adds _ _ _ c.args.m _ _ (returns-clause-added c)

pub returns-clause-places : goal.returns-clause-places
returns-clause-places c = places-adds _ _ _ c.args.m _ _ (returns-clause-added c)

pub returns-clause-others : goal.returns-clause-others
returns-clause-others c = chosen-adds _ _ _ c.args.m _ _ (returns-clause-added c)
