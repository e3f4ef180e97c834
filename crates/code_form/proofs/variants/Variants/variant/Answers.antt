use Rattle.std.proofs.Common.{subst}
use Rattle.code_form.specs.Variant.{Table, replacements_at, AreDifferent}
use Rattle.code_form.proofs.variants.Variants.variant.Goals as goal

pub returns-clause-given : goal.returns-clause-given
returns-clause-given c = rw (← c.self.view_is, c.number_in.ensures, c.choice_of.ensures, c.deref.ensures.value)
    (c.self.invariant.numbered c.args.place.0 c.args.m)

pub returns-clause-different : goal.returns-clause-different
returns-clause-different c = subst (λ (t : Table). AreDifferent (replacements_at t c.args.place.0)) c.self.view_is (c.self.invariant.different c.args.place.0)
