-- The first element of a list that passes a test.
use Rattle.std.proofs.Common.{◌≡◌, ℕ, zero, suc, ◌+◌, ◌<◌, ◌≤◌, Bool, true, false, cond, List, [], ◌∷◌, length, get_or, sym, ap, ◌∙◌, arith, ⊎_elim, Some, None}
use Rattle.std.specs.List.{find, range_with_len, AllPairs, Contains}
use Rattle.std.proofs.lemmas.Bool.{cases_order, cases_eq}
use Rattle.std.proofs.lemmas.List.{get_or_default}
use Rattle.traces.proofs.Bools.{on_bool}
use Rattle.traces.proofs.Lists.{contains_cases}

-- where it is, and none before it passes
pub record IsFirst (p : ℕ → Bool) (xs : List ℕ) (a : ℕ) : Type 0 where
  pub place : ℕ
  pub within : place < length xs
  pub is : get_or xs place a ≡ a
  pub passes : p a ≡ true
  pub before : (j d : ℕ) → j < place → p (get_or xs j d) ≡ false

earlier : (p : ℕ → Bool) (x : ℕ) (xs : List ℕ) (n : ℕ) → p x ≡ false → ((j d : ℕ) → j < n → p (get_or xs j d) ≡ false) → (j d : ℕ) → j < suc n
    → p (get_or (x ∷ xs) j d) ≡ false
earlier p x xs n f h zero d l = f
earlier p x xs n f h (suc j) d l = h j d (omega arith)

pub first_is : (p : ℕ → Bool) (xs : List ℕ) (a : ℕ) → find p xs ≡ Some a → IsFirst p xs a
first_is p [] a e = absurd (let n : None ≡ Some a = e in let bad : ⊥ = cc in bad)
first_is p (x ∷ xs) a e = on_bool (p x)
    (λ t. let same : x ≡ a = (let s : Some x ≡ Some a = sym (ap (λ b. cond b (Some x) (find p xs)) t) ∙ e in cc) in
    record { place = 0; within = omega arith; is = same; passes = sym (ap p same) ∙ t; before = λ j d l. absurd (omega arith) })
    (λ f. let w = first_is p xs a (sym (ap (λ b. cond b (Some x) (find p xs)) f) ∙ e) in let l = w.within in
    record { place = suc w.place; within = omega arith; is = w.is; passes = w.passes; before = earlier p x xs w.place f w.before })

pub none_passes : (p : ℕ → Bool) (xs : List ℕ) → find p xs ≡ None → (k : ℕ) → Contains xs k → p k ≡ false
none_passes p [] e k c = absurd (let l = c.1 in omega arith)
none_passes p (x ∷ xs) e k c = on_bool (p x)
    (λ t. let s : Some x ≡ None = sym (ap (λ b. cond b (Some x) (find p xs)) t) ∙ e in absurd (let bad : ⊥ = cc in bad))
    (λ f. ⊎_elim (λ (same : x ≡ k). sym (ap p same) ∙ f) (λ r. none_passes p xs (sym (ap (λ b. cond b (Some x) (find p xs)) f) ∙ e) k r) (contains_cases x k xs c))

-- in a rising list no smaller one passes
pub none_smaller : (p : ℕ → Bool) (xs : List ℕ) (a : ℕ) → AllPairs (λ x y. x < y) xs → find p xs ≡ Some a → (k : ℕ) → Contains xs k → k < a → p k ≡ false
none_smaller p xs a rising e k c l =
    let w = first_is p xs a e in let at = w.is in let there = c.2 in let len = c.1 in ⊎_elim
    (λ (s : c.0 ≡ w.place).
    let i : get_or xs c.0 k ≡ get_or xs w.place k = ap (λ j. get_or xs j k) s in
    let d : get_or xs w.place k ≡ get_or xs w.place a = get_or_default xs w.place k a w.within in absurd (omega (arith, i, d, at, there, l)))
    (λ r. ⊎_elim
    (λ (b : c.0 < w.place). sym (ap p there) ∙ w.before c.0 k b)
    (λ (b : w.place < c.0).
    let up : get_or xs w.place k < get_or xs c.0 k = rising w.place c.0 k b len in
    let d : get_or xs w.place k ≡ get_or xs w.place a = get_or_default xs w.place k a w.within in absurd (omega (arith, up, d, at, there, l)))
    r)
    (cases_order c.0 w.place)

-- the same in a range
pub first_of_range : (p : ℕ → Bool) (from n a : ℕ) → find p (range_with_len from n) ≡ Some a
    → (from ≤ a) × (a < from + n) × (p a ≡ true) × ((k : ℕ) → from ≤ k → k < a → p k ≡ false)
first_of_range p from zero a e = absurd (let s : None ≡ Some a = e in let bad : ⊥ = cc in bad)
first_of_range p from (suc n) a e = on_bool (p from)
    (λ t. let same : from ≡ a = (let s : Some from ≡ Some a = sym (ap (λ b. cond b (Some from) (find p (range_with_len (from + 1) n))) t) ∙ e in cc) in
    (omega arith, omega arith, sym (ap p same) ∙ t, λ k l u. absurd (omega arith)))
    (λ f. let w = first_of_range p (from + 1) n a (sym (ap (λ b. cond b (Some from) (find p (range_with_len (from + 1) n))) f) ∙ e) in
    let l = w.0 in let u = w.1 in (
      omega arith,
      omega arith,
      w.2,
      λ k b h. ⊎_elim (λ (same : from ≡ k). sym (ap p same) ∙ f) (λ (d : from ≡ k → ⊥). w.3 k (omega (arith, d)) h)
          (cases_eq from k),
    ))

pub none_of_range : (p : ℕ → Bool) (from n : ℕ) → find p (range_with_len from n) ≡ None → (k : ℕ) → from ≤ k → k < from + n → p k ≡ false
none_of_range p from zero e k l u = absurd (omega arith)
none_of_range p from (suc n) e k l u = on_bool (p from)
    (λ t. let s : Some from ≡ None = sym (ap (λ b. cond b (Some from) (find p (range_with_len (from + 1) n))) t) ∙ e in absurd (let bad : ⊥ = cc in bad))
    (λ f. ⊎_elim (λ (same : from ≡ k). sym (ap p same) ∙ f)
    (λ (d : from ≡ k → ⊥). none_of_range p (from + 1) n (sym (ap (λ b. cond b (Some from) (find p (range_with_len (from + 1) n))) f) ∙ e) k (omega (arith, d)) (omega arith))
    (cases_eq from k))
