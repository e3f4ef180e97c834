-- A list without ports.
use Rattle.std.proofs.Common.{◌≡◌, ℕ, List, [], ◌∷◌, length, map, Option, arith, ap}
use Rattle.code_form.specs.declared.sign.PortSign.{PortSign}
use Rattle.ports.specs.Asks.{asked_in, answers_in, no_answer}

module _ {A : Type 0} (all : List A) (none : all ≡ []) where
  pub no_signs : (sign : A → PortSign) (signs : List PortSign) → length signs ≡ 0 → map sign all ≡ signs
  no_signs sign [] e = ap (map sign) none
  no_signs sign (s ∷ signs) e = absurd (omega arith)

  pub none_asked : (asked : A → ℕ) (p : ℕ) → asked_in (map asked all) p ≡ 0
  none_asked asked p = ap (λ (xs : List A). asked_in (map asked xs) p) none
