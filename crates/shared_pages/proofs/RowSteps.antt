-- Rows that are added, copied and cleared.
use Rattle.std.proofs.Common.{◌≡◌, ℕ, zero, suc, ◌+◌, ◌^◌, ◌<◌, List, [], ◌∷◌, ◌++◌, length, get_or, replicate, arith, ap, ◌∙◌, refl}
use Rattle.std.proofs.Common.{length-append}
use Rattle.std.proofs.lemmas.List.Sums.{sum_by-append}
use Rattle.std.proofs.lemmas.Simd.{length-replicate}
use Rattle.shared_pages.specs.Counts.{Names, is_one, occurs, different}
use Rattle.shared_pages.specs.Rows.{IsExtended}
use Rattle.shared_pages.proofs.Joined.{different_same}
use Rattle.shared_pages.proofs.Owners.{is_one-other, occurs_cons}

occurs_zeros : (p n : ℕ) → 0 < p → occurs p (replicate n 0) ≡ 0
occurs_zeros p zero h = refl
occurs_zeros p (suc n) h =
    let none = is_one-other p 0 (λ e. absurd (omega (arith, e, h))) in
    let rest = occurs_zeros p n h in
    let more = occurs_cons p 0 (replicate n 0) in
    omega (arith, none, rest, more)

pub at_zeros : (n i : ℕ) → ◌≡◌ {A = ℕ} (get_or (replicate n 0) i 0) 0
at_zeros zero i = refl
at_zeros (suc n) zero = refl
at_zeros (suc n) (suc i) = at_zeros n i

pub at_longer : (xs : List ℕ) (n j : ℕ) → get_or (xs ++ replicate n 0) j 0 ≡ get_or xs j 0
at_longer [] n j = at_zeros n j
at_longer (x ∷ xs) n zero = refl
at_longer (x ∷ xs) n (suc j) = at_longer xs n j

pub extended : (more : ℕ) (old new : Names) → length old.entries + more < 2 ^ 32 → new ≡ record old { entries = old.entries ++ replicate more 0 }
    → IsExtended old new
extended more old new h e =
    let is : new.entries ≡ old.entries ++ replicate more 0 = ap (λ (n : Names). n.entries) e in
    let long = ap length is in
    let longer = length-append old.entries (replicate more 0) in
    let zeros = length-replicate {A = ℕ} more 0 in
    let often : (p : ℕ) → 0 < p → occurs p new.entries ≡ occurs p old.entries = (λ p some. ap (occurs p) is
    ∙ (let a = sum_by-append (λ y. is_one p y) old.entries (replicate more 0) in let z = occurs_zeros p more some in omega (arith, a, z))) in
    record {
      few = omega (arith, long, longer, zeros);
      long = omega (arith, long, longer);
      limit = ap (λ (n : Names). n.limit) e;
      used = different_same new.entries old.entries often;
      same = λ j. ap (λ (xs : List ℕ). get_or xs j 0) is ∙ at_longer old.entries more j;
      occurs = often;
    }

-- or none
pub extended_none : (old new : Names) → length old.entries < 2 ^ 32 → new ≡ old → IsExtended old new
extended_none old new h e =
    let is = ap (λ (n : Names). n.entries) e in
    let long = ap length is in
    record {
      few = omega (arith, long, h);
      long = omega (arith, long);
      limit = ap (λ (n : Names). n.limit) e;
      used = ap different is;
      same = λ j. ap (λ (xs : List ℕ). get_or xs j 0) is;
      occurs = λ p some. ap (occurs p) is;
    }
