-- The table of reaches, place by place.
use Rattle.std.proofs.Common.{◌≡◌, ℕ, ◌+◌, ◌<◌, ◌≤◌, ◌↔◌, List, get_or, replicate, Option, Some, None, refl, sym, ap, ◌∙◌, subst, arith, ⊎_elim, option_map}
use Rattle.std.specs.List.{Contains}
use Rattle.std.proofs.lemmas.Bool.{cases_lt}
use Rattle.std.proofs.lemmas.List.{get_or-replicate, length-replicate}
use Rattle.reach_report.specs.Pass.{lesser, with_values}
use Rattle.reach_report.specs.Least.{FirstTry, IsLeast, AreLeast}
use Rattle.reach_report.proofs.Tables.{length_lowered, lowered_in, lowered_or_same}

some_is_none : {A : Type 0} (x : A) → Some x ≡ None → ⊥
some_is_none x e = cc

same_some : (x y : ℕ) → Some x ≡ Some y → x ≡ y
same_some x y e = cc

module _ (variant : ℕ → ℕ → ℕ) (visits : List (Option ℕ)) where
  -- no place yet
  pub least_begins : (mutants : ℕ) → AreLeast variant visits mutants 0 (replicate mutants None)
  least_begins mutants = record {
    count = length-replicate {A = Option ℕ} mutants None;
    each = λ m h. subst (IsLeast variant visits 0 m) (sym (get_or-replicate mutants m None None h)) (λ at l t. absurd (omega arith));
  }

  -- a place that adds nothing for a mutant
  untried : (at m : ℕ) (r : Option ℕ) → (0 < variant m at → get_or visits at None ≡ None) → IsLeast variant visits at m r → IsLeast variant visits (at + 1) m r
  untried at m None h old = λ k l t. ⊎_elim
      (λ u. old k u t)
      (λ g. let same : at ≡ k = omega arith in ap (λ j. get_or visits j None) (sym same) ∙ h (subst (λ j. 0 < variant m j) (sym same) t))
      (cases_lt k at)
  untried at m (Some r) h old = record {
    place = old.place;
    number = old.number;
    within = let l = old.within in omega arith;
    tried = old.tried;
    visit = old.visit;
    is = old.is;
    least = λ k n l t e. ⊎_elim
        (λ u. old.least k n u t e)
        (λ g. let same : at ≡ k = omega arith in absurd (some_is_none n (sym e ∙ ap (λ j. get_or visits j None) (sym same) ∙ h (subst (λ j. 0 < variant m j) (sym same) t))))
        (cases_lt k at);
  }

  -- a place at which the mutant has a variant of its own
  tried_there : (at n m : ℕ) (r : Option ℕ) → 0 < variant m at → get_or visits at None ≡ Some n → IsLeast variant visits at m r
      → FirstTry variant visits (at + 1) m (lesser (n + 1) r)
  tried_there at n m None t e old = record {
    place = at;
    number = n;
    within = omega arith;
    tried = t;
    visit = e;
    is = refl;
    least = λ k j l u f. ⊎_elim
        (λ b. absurd (some_is_none j (sym f ∙ old k b u)))
        (λ g. let same : at ≡ k = omega arith in let s = same_some n j (sym e ∙ ap (λ i. get_or visits i None) same ∙ f) in omega arith)
        (cases_lt k at);
  }
  tried_there at n m (Some r) t e old = let is = old.is in let inside = old.within in ⊎_elim
      (λ (less : n < old.number). record {
        place = at;
        number = n;
        within = omega arith;
        tried = t;
        visit = e;
        is = omega arith;
        least = λ k j l u f. ⊎_elim
            (λ b. let o = old.least k j b u f in omega arith)
            (λ g. let same : at ≡ k = omega arith in let s = same_some n j (sym e ∙ ap (λ i. get_or visits i None) same ∙ f) in omega arith)
            (cases_lt k at);
      })
      (λ (more : old.number ≤ n). record {
        place = old.place;
        number = old.number;
        within = omega arith;
        tried = old.tried;
        visit = old.visit;
        is = omega arith;
        least = λ k j l u f. ⊎_elim
            (λ b. old.least k j b u f)
            (λ g. let same : at ≡ k = omega arith in let s = same_some n j (sym e ∙ ap (λ i. get_or visits i None) same ∙ f) in omega arith)
            (cases_lt k at);
      })
      (cases_lt n old.number)

  -- one more place
  pub least_more : (mutants at : ℕ) (table : List (Option ℕ)) (ms : List ℕ) (visit : Option ℕ) → visit ≡ get_or visits at None
      → ((m : ℕ) → Contains ms m ↔ (0 < variant m at)) → AreLeast variant visits mutants at table
      → AreLeast variant visits mutants (at + 1) (with_values (option_map (λ n. n + 1) visit) table ms)
  least_more mutants at table ms None is exact old = record {
    count = old.count;
    each = λ m h. untried at m (get_or table m None) (λ t. sym is) (old.each m h);
  }
  least_more mutants at table ms (Some n) is exact old = let long = old.count in record {
    count = length_lowered (n + 1) table ms ∙ old.count;
    each = λ m h. ⊎_elim
        (λ t. subst (IsLeast variant visits (at + 1) m) (sym (lowered_in (n + 1) table ms m (omega arith) ((exact m).1 t)))
        (tried_there at n m (get_or table m None) t (sym is) (old.each m h)))
        (λ z. ⊎_elim
        (λ same. subst (IsLeast variant visits (at + 1) m) (sym same) (untried at m (get_or table m None) (λ t. absurd (omega arith)) (old.each m h)))
        (λ c. absurd (let t = (exact m).0 c in omega arith))
        (lowered_or_same (n + 1) table ms m))
        (cases_lt 0 (variant m at));
  }

  -- the same for equal variants
  pub other_variants : (other : ℕ → ℕ → ℕ) → ((m at : ℕ) → other m at ≡ variant m at) → (places m : ℕ) (r : Option ℕ) → IsLeast variant visits places m r
      → IsLeast other visits places m r
  other_variants other e places m None h = λ at l t. h at l (subst (λ v. 0 < v) (e m at) t)
  other_variants other e places m (Some r) h = record {
    place = h.place;
    number = h.number;
    within = h.within;
    tried = subst (λ v. 0 < v) (sym (e m h.place)) h.tried;
    visit = h.visit;
    is = h.is;
    least = λ at n l t f. h.least at n l (subst (λ v. 0 < v) (e m at) t) f;
  }
