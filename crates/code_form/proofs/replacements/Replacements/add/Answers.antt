use Rattle.std.proofs.Common.{inl, inr}
use mathlib.Core.Logic.{⊎_elim}
use Rattle.code_form.proofs.replacements.Replacements.add.Goals as goal

pub returns-in_ok-insert_rising-clause-mutants : goal.returns-in_ok-insert_rising-clause-mutants
returns-in_ok-insert_rising-clause-mutants c n =
    let h = rw c.reserve.ensures.items at c.in_ok-insert_rising.ensures.mutants n in
    (λ x. ⊎_elim (λ e. inl (e, c.if-number-gt0.true)) inr (h.0 x), λ y. h.1 (⊎_elim (λ p. inl p.0) inr y))
