-- Tables whose entries were made no greater than a value.
use Rattle.std.proofs.Common.{◌≡◌, ◌≢◌, ℕ, ◌<◌, ◌≤◌, min, List, [], ◌∷◌, length, get_or, fold, Option, Some, None, refl, sym, ap, ◌∙◌, subst, arith, ⊎_elim, inl, inr, ◌⊎◌, get_or-set_other, get_or-set_same, length-set}
use Rattle.std.specs.List.{Contains}
use Rattle.std.proofs.lemmas.Bool.{cases_eq}
use Rattle.traces.proofs.Lists.{contains_here, contains_there, contains_cases}
use Rattle.reach_report.specs.Pass.{lesser, with_lesser}

module _ (value : ℕ) where
  pub lesser_least : (o : Option ℕ) → lesser value o ≤ value
  lesser_least None = omega arith
  lesser_least (Some w) = omega arith

  others : (table : List (Option ℕ)) (m c : ℕ) → c ≢ m → get_or (with_lesser value table m) c None ≡ get_or table c None
  others table m c h = get_or-set_other table m c (Some (lesser value (get_or table m None))) None h

  here : (table : List (Option ℕ)) (c : ℕ) → c < length table → get_or (with_lesser value table c) c None ≡ Some (lesser value (get_or table c None))
  here table c h = get_or-set_same table c (Some (lesser value (get_or table c None))) None h

  as_long : (table : List (Option ℕ)) (m : ℕ) → length (with_lesser value table m) ≡ length table
  as_long table m = length-set table m (Some (lesser value (get_or table m None)))

  pub length_lowered : (table : List (Option ℕ)) (ms : List ℕ) → length (fold (with_lesser value) table ms) ≡ length table
  length_lowered table [] = refl
  length_lowered table (m ∷ ms) = length_lowered (with_lesser value table m) ms ∙ as_long table m

  -- an entry that is no greater stays
  stays : (table : List (Option ℕ)) (ms : List ℕ) (c w : ℕ) → c < length table → get_or table c None ≡ Some w → w ≤ value
      → get_or (fold (with_lesser value) table ms) c None ≡ Some w
  stays table [] c w l e h = e
  stays table (m ∷ ms) c w l e h = let long = as_long table m in stays (with_lesser value table m) ms c w (omega arith)
      (⊎_elim
      (λ (s : c ≡ m). let least : min w value ≡ w = omega arith in
      ap (λ k. get_or (with_lesser value table k) c None) (sym s) ∙ here table c l ∙ ap (λ o. Some (lesser value o)) e ∙ ap Some least)
      (λ (d : c ≡ m → ⊥). others table m c d ∙ e)
      (cases_eq c m))
      h

  pub lowered_in : (table : List (Option ℕ)) (ms : List ℕ) (c : ℕ) → c < length table → Contains ms c
      → get_or (fold (with_lesser value) table ms) c None ≡ Some (lesser value (get_or table c None))
  lowered_in table [] c l h = absurd (let k = h.1 in omega arith)
  lowered_in table (m ∷ ms) c l h = let long = as_long table m in ⊎_elim
      (λ (s : m ≡ c).
      let now : get_or (with_lesser value table m) c None ≡ Some (lesser value (get_or table c None)) =
      ap (λ k. get_or (with_lesser value table k) c None) s ∙ here table c l in
      stays (with_lesser value table m) ms c (lesser value (get_or table c None)) (omega arith) now (lesser_least (get_or table c None)))
      (λ (d : m ≡ c → ⊥). ⊎_elim
      (λ (s : m ≡ c). absurd (d s))
      (λ r. lowered_in (with_lesser value table m) ms c (omega arith) r ∙ ap (λ o. Some (lesser value o)) (others table m c (λ e. d (sym e))))
      (contains_cases m c ms h))
      (cases_eq m c)

  pub lowered_or_same : (table : List (Option ℕ)) (ms : List ℕ) (c : ℕ) → (get_or (fold (with_lesser value) table ms) c None ≡ get_or table c None) ⊎ Contains ms c
  lowered_or_same table [] c = inl refl
  lowered_or_same table (m ∷ ms) c = ⊎_elim
      (λ (s : m ≡ c). inr (subst (λ k. Contains (m ∷ ms) k) s (contains_here m ms)))
      (λ (d : m ≡ c → ⊥). ⊎_elim
      (λ e. inl (e ∙ others table m c (λ s. d (sym s))))
      (λ h. inr (contains_there m c ms h))
      (lowered_or_same (with_lesser value table m) ms c))
      (cases_eq m c)
