use Rattle.std.proofs.Common.{◌≢◌, ◌≤◌, sym, subst, ◌∙◌, arith, length}
use Rattle.std.proofs.lemmas.Bool.Decides.{nat_tests}
use Rattle.code_form.specs.Variant.{Table, replacements_at}
use Rattle.code_form.proofs.Lookups.{place_replacements, instr_by_number}
use Rattle.code_form.proofs.variants.Variants.instr.Goals as goal

pub bounds-as_slice-v : goal.bounds-as_slice-v
bounds-as_slice-v c =
    let given = subst (λ (t : Table). c.args.v ≤ length (replacements_at t c.args.place.0)) (sym c.self.view_is) c.requires.given in
    let some : c.args.v ≢ 0 = λ e. grind (arith, nat_tests, e, c.if-v-eq0.false) in
    let is = c.as_slice-2.ensures.keys ∙ place_replacements c.self.inside.places.items c.args.place.0 c.args.v c.index.result.now some given c.index.ensures in
    rw is (omega (arith, some, given))

pub returns : goal.returns
returns c =
    let given = subst (λ (t : Table). c.args.v ≤ length (replacements_at t c.args.place.0)) (sym c.self.view_is) c.requires.given in
    let some : c.args.v ≢ 0 = λ e. grind (arith, nat_tests, e, c.if-v-eq0.false) in
    let is = c.as_slice-2.ensures.keys ∙ place_replacements c.self.inside.places.items c.args.place.0 c.args.v c.index.result.now some given c.index.ensures in
    let l : c.args.v ≤ length c.as_slice-2.result.now = rw is given in
    rw (← c.self.view_is) (instr_by_number c.args.code.now c.self.inside.chosen.items c.self.inside.places.items c.args.place.0 c.args.v c.as_slice-2.result.now
    c.index-as_slice-v.result some is l c.index-as_slice-v.is)
