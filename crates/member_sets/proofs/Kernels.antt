-- Bits of words to which one more is added, and of words combined by the kernels.
use Rattle.std.proofs.Common.{◌≡◌, ◌≢◌, ℕ, suc, ◌+◌, ◌-◌, ◌*◌, ◌/◌, ◌%◌, ◌^◌, ◌<◌, ◌≤◌, min, max, Bool, true, false, ◌&&◌, ◌||◌, ◌==◌, not, List, [], ◌∷◌, ◌++◌}
use Rattle.std.proofs.Common.{length, take, drop, get_or, set, refl, sym, ap, ◌∙◌, subst, arith, ⊎_elim, bit_and, bit_or, get_or-set_same, get_or-set_other, length-set, length-take}
use Rattle.std.specs.Prelude.{nat_le, slice_index}
use Rattle.std.specs.List.{All, Contains, filter, list_any}
use Rattle.std.specs.List.Sorted.{IsStrictlyIncreasing}
use Rattle.std.specs.Int.{bit_at, bit_not, w64}
use Rattle.std.specs.Simd.Lanes.{zip2}
use Rattle.std.proofs.lemmas.Bool.{true≢false, or_left, or_right, and_from, and_parts, not_from_true, not_from_false, eqb-true, eq-eqb, ne_eqb, cases_lt, cases_eq}
use Rattle.std.proofs.lemmas.Bool.Decides.{nat_tests}
use Rattle.std.proofs.lemmas.List.{take_all, take-append-le, get_or_past, get_or_default, get_or-take, get_or-drop}
use Rattle.std.proofs.lemmas.Nat.Bits.{bit_at-zero, bit_at-lt, bit_at_not, bit_at_or, bit_at_and, bit_at-pow_same, bit_at-pow_other}
use Rattle.std.proofs.lemmas.Simd.{get_or-zip2, length-zip2}
use Rattle.std.proofs.lemmas.List.Elements.{Contains-get_or}
use Rattle.std.proofs.lemmas.List.Kept.{AllPairs-from_increasing}
use Rattle.std.proofs.lemmas.Map.Views.{Contains-from_any}
use Rattle.traces.specs.Together.{below}
use Rattle.traces.proofs.Lists.{filter-filter}
use Rattle.traces.proofs.Turns.{any_from}
use Rattle.traces.proofs.Bools.{on_bool, same_bools}
use Rattle.member_sets.specs.Planes.{has_bit, numbers_in}
use Rattle.member_sets.proofs.Bits.{bit_place, bit_from, has_bit-contains, contains-has_bit, rising_numbers, no_number}
use Rattle.lane_ops.specs.Lane.{and_not}
use Rattle.member_sets.proofs.Rising.{same_rising}
use Rattle.member_sets.proofs.Lists.{flipped}

contains_from_any : (xs : List ℕ) (m : ℕ) → list_any (λ k. k == m) xs ≡ true → Contains xs m
contains_from_any xs m h = Contains-from_any {eq = λ p q. p == q} (λ p q e. eqb-true p q e) m xs (ap (λ p. list_any p xs) (λ i c. flipped m c i) ∙ h)

-- one number more
module _ (first : ℕ) (words : List ℕ) (m n : ℕ) (l : first ≤ m / 64) (h : m / 64 - first < length words) where
  abbrev place : ℕ
  place = m / 64 - first

  abbrev with : List ℕ
  with = set words place (bit_or (slice_index words place) (2 ^ (m % 64)))

  abbrev bit_in : List ℕ → ℕ
  bit_in ws = bit_at (slice_index ws (n / 64 - first)) (n % 64)

  same_place : n / 64 - first ≡ place → bit_in with ≡ max (bit_in words) (bit_at (2 ^ (m % 64)) (n % 64))
  same_place e =
      let at : slice_index with (n / 64 - first) ≡ bit_or (slice_index words place) (2 ^ (m % 64)) =
      ap (slice_index with) e ∙ get_or-set_same words place _ 0 h in
      ap (λ w. bit_at w (n % 64)) at ∙ bit_at_or (slice_index words place) (2 ^ (m % 64)) (n % 64)
      ∙ ap (λ q. max (bit_at (slice_index words q) (n % 64)) (bit_at (2 ^ (m % 64)) (n % 64))) (sym e)

  other_place : (n / 64 - first ≡ place → ⊥) → bit_in with ≡ bit_in words
  other_place ne = ap (λ w. bit_at w (n % 64)) (get_or-set_other words place (n / 64 - first) _ 0 ne)

  put_there : has_bit first with n ≡ true → (has_bit first words n || (n == m)) ≡ true
  put_there t =
      let p = bit_place first with n t in ⊎_elim
      (λ (e : n ≡ m). or_right (has_bit first words n) (n == m) (eq-eqb _ _ e))
      (λ (ne : n ≡ m → ⊥). or_left (has_bit first words n) (n == m) (bit_from first words n p.0 (⊎_elim
      (λ (s : n / 64 - first ≡ place). let low : n % 64 ≢ m % 64 = (λ k. ne (let a = p.0 in omega arith)) in
      let none = bit_at-pow_other (m % 64) (n % 64) low in omega (arith, same_place s, none, p.2))
      (λ o. sym (other_place o) ∙ p.2)
      (cases_eq (n / 64 - first) place))))
      (cases_eq n m)

  stays : has_bit first words n ≡ true → has_bit first with n ≡ true
  stays t =
      let p = bit_place first words n t in bit_from first with n p.0 (⊎_elim
      (λ (s : n / 64 - first ≡ place). let b = bit_at-lt (2 ^ (m % 64)) (n % 64) in omega (arith, same_place s, b, p.2))
      (λ o. other_place o ∙ p.2)
      (cases_eq (n / 64 - first) place))

  new : n ≡ m → has_bit first with n ≡ true
  new e =
      let s : n / 64 - first ≡ place = ap (λ k. k / 64 - first) e in
      let one : bit_at (2 ^ (m % 64)) (n % 64) ≡ 1 = ap (λ k. bit_at (2 ^ (m % 64)) (k % 64)) e ∙ bit_at-pow_same (m % 64) in
      let low : first ≤ n / 64 = rw e l in
      bit_from first with n low (let b = bit_at-lt (slice_index words (n / 64 - first)) (n % 64) in omega (arith, same_place s, b, one))

  pub put : has_bit first with n ≡ (has_bit first words n || (n == m))
  put = same_bools _ _ put_there (λ t. on_bool (has_bit first words n) stays (λ f. new (eqb-true _ _ (sym (ap (λ b. b || (n == m)) f) ∙ t))))

-- the words of the kernels
module _ (first : ℕ) (a b : List ℕ) (m : ℕ) (long : length b ≡ length a) where
  abbrev at_a : ℕ
  at_a = bit_at (slice_index a (m / 64 - first)) (m % 64)

  abbrev at_b : ℕ
  at_b = bit_at (slice_index b (m / 64 - first)) (m % 64)

  combined : (f : ℕ → ℕ → ℕ) → m / 64 - first < length a
      → bit_at (slice_index (zip2 f a b) (m / 64 - first)) (m % 64) ≡ bit_at (f (slice_index a (m / 64 - first)) (slice_index b (m / 64 - first))) (m % 64)
  combined f l = ap (λ w. bit_at w (m % 64)) (get_or-zip2 f a b (m / 64 - first) 0 0 0 l (omega arith))

  pub both : has_bit first (zip2 bit_and a b) m ≡ (has_bit first a m && has_bit first b m)
  both = same_bools _ _
      (λ t. let p = bit_place first (zip2 bit_and a b) m t in let z = length-zip2 bit_and a b (sym long) in
      let bit = combined bit_and (let w = p.1 in omega arith) ∙ bit_at_and (slice_index a (m / 64 - first)) (slice_index b (m / 64 - first)) (m % 64) in
      let u = bit_at-lt (slice_index a (m / 64 - first)) (m % 64) in let v = bit_at-lt (slice_index b (m / 64 - first)) (m % 64) in
      and_from _ _ (bit_from first a m p.0 (omega (arith, bit, p.2, u, v))) (bit_from first b m p.0 (omega (arith, bit, p.2, u, v))))
      (λ t. let h = and_parts _ _ t in let p = bit_place first a m h.0 in let q = bit_place first b m h.1 in
      bit_from first (zip2 bit_and a b) m p.0 (combined bit_and p.1
      ∙ bit_at_and (slice_index a (m / 64 - first)) (slice_index b (m / 64 - first)) (m % 64) ∙ omega (arith, p.2, q.2)))

  pub one_alone : slice_index b (m / 64 - first) < 2 ^ 64 → has_bit first (zip2 and_not a b) m ≡ (has_bit first a m && not (has_bit first b m))
  one_alone small =
      let other : bit_at (2 ^ 64 - 1 - slice_index b (m / 64 - first)) (m % 64) ≡ 1 - at_b = bit_at_not w64 (slice_index b (m / 64 - first)) (m % 64) small (omega arith) in
      let u = bit_at-lt (slice_index a (m / 64 - first)) (m % 64) in let v = bit_at-lt (slice_index b (m / 64 - first)) (m % 64) in
      let of = λ (l : m / 64 - first < length a). combined and_not l ∙ bit_at_and (slice_index a (m / 64 - first)) (2 ^ 64 - 1 - slice_index b (m / 64 - first)) (m % 64) in
      same_bools _ _
      (λ t. let p = bit_place first (zip2 and_not a b) m t in let z = length-zip2 and_not a b (sym long) in
      let bit = of (let w = p.1 in omega arith) in
      and_from _ _ (bit_from first a m p.0 (omega (arith, bit, p.2, other, u, v)))
      (on_bool (has_bit first b m) (λ y. absurd (let q = bit_place first b m y in omega (arith, bit, p.2, other, q.2))) (λ f. not_from_false _ f)))
      (λ t. let h = and_parts _ _ t in let p = bit_place first a m h.0 in
      let none : at_b ≡ 0 = (⊎_elim (λ (y : at_b ≡ 1). absurd (true≢false (sym h.1 ∙ not_from_true _ (bit_from first b m p.0 y)))) (λ (n : at_b ≡ 1 → ⊥). omega arith) (cases_eq at_b 1)) in
      bit_from first (zip2 and_not a b) m p.0 (of p.1 ∙ omega (arith, p.2, other, none)))

-- a list of one element
pub one_of : (xs : List ℕ) → length xs ≡ 1 → get_or xs 0 0 ∷ [] ≡ xs
one_of [] h = absurd (omega arith)
one_of (x ∷ []) h = refl
one_of (x ∷ y ∷ xs) h = absurd (omega arith)

-- a list that is written over whole
pub written_over : (n : ℕ) (xs ys : List ℕ) → n ≡ length xs → take n (xs ++ drop (length xs) ys) ≡ xs
written_over n xs ys e = take-append-le n xs (drop (length xs) ys) (omega arith) ∙ take_all n xs (omega arith)

pub filter_where : (p q : ℕ → Bool) (xs : List ℕ) → All (λ x. p x ≡ q x) xs → filter p xs ≡ filter q xs
filter_where p q [] h = refl
filter_where p q (x ∷ xs) h =
    let rest = filter_where p q xs (λ k d l. h (suc k) d (omega arith)) in
    on_bool (p x) (λ t. rw t (rw (sym (h 0 x (omega arith)) ∙ t) (ap (λ ys. x ∷ ys) rest))) (λ f. rw f (rw (sym (h 0 x (omega arith)) ∙ f) rest))

-- a mask of some numbers that go away gets one more of them, or another number
pub mask_more : (any away is : Bool) → (is ≡ true → away ≡ true) → ((any && away) || is) ≡ ((any || is) && away)
mask_more true true is h = refl
mask_more true false true h = sym (h refl)
mask_more true false false h = refl
mask_more false away true h = sym (h refl)
mask_more false away false h = refl

pub mask_left : (any away is : Bool) → (is ≡ true → away ≡ false) → (any && away) ≡ ((any || is) && away)
mask_left true away is h = refl
mask_left false away true h = sym (h refl)
mask_left false away false h = refl

filter_same : (p q : ℕ → Bool) (xs : List ℕ) → ((x : ℕ) → p x ≡ q x) → filter p xs ≡ filter q xs
filter_same p q xs h = λ i. filter (λ x. h x i) xs

module _ (first : ℕ) (a b : List ℕ) (long : length b ≡ length a) where
  filtered : (f : ℕ → ℕ → ℕ) (p : ℕ → Bool) → ((m : ℕ) → has_bit first (zip2 f a b) m ≡ (has_bit first a m && p m))
      → numbers_in first (zip2 f a b) ≡ filter p (numbers_in first a)
  unfolding numbers_in
  filtered f p h =
      let same : 64 * (first + length (zip2 f a b)) ≡ 64 * (first + length a) = ap (λ n. 64 * (first + n)) (length-zip2 f a b (sym long)) in
      ap (λ n. filter (has_bit first (zip2 f a b)) (below n)) same
      ∙ filter_same (has_bit first (zip2 f a b)) (λ m. has_bit first a m && p m) (below (64 * (first + length a))) h
      ∙ sym (filter-filter p (has_bit first a) (below (64 * (first + length a))))

  pub numbers_both : numbers_in first (zip2 bit_and a b) ≡ filter (has_bit first b) (numbers_in first a)
  numbers_both = filtered bit_and (has_bit first b) (λ m. both first a b m long)

  pub numbers_alone : ((i : ℕ) → slice_index b i < 2 ^ 64) → numbers_in first (zip2 and_not a b) ≡ filter (λ m. not (has_bit first b m)) (numbers_in first a)
  numbers_alone small = filtered and_not (λ m. not (has_bit first b m)) (λ m. one_alone first a b m long (small (m / 64 - first)))

-- words that are left out at the ends have no bit set
pub trimmed : (first lo hi : ℕ) (words : List ℕ) → lo ≤ hi → hi ≤ length words → ((k : ℕ) → k < lo → slice_index words k ≡ 0)
    → ((k : ℕ) → hi ≤ k → k < length words → slice_index words k ≡ 0) → numbers_in (first + lo) (take (hi - lo) (drop lo words)) ≡ numbers_in first words
trimmed first lo hi words l h low high =
    let part : List ℕ = take (hi - lo) (drop lo words) in
    same_rising (numbers_in (first + lo) part) (numbers_in first words) (rising_numbers (first + lo) part) (rising_numbers first words)
    (λ m c. has_bit-contains first words m (let p = bit_place (first + lo) part m (contains-has_bit (first + lo) part m c) in
    let n = length-take (hi - lo) (drop lo words) in let within : m / 64 - (first + lo) < hi - lo = (let w = p.1 in omega arith) in
    let at : lo + (m / 64 - (first + lo)) ≡ m / 64 - first = (let f = p.0 in omega arith) in
    bit_from first words m (let f = p.0 in omega arith)
    (ap (λ w. bit_at w (m % 64)) (sym (get_or-take (hi - lo) (drop lo words) (m / 64 - (first + lo)) 0 within
    ∙ get_or-drop lo words (m / 64 - (first + lo)) 0 ∙ ap (slice_index words) at)) ∙ p.2)))
    (λ m c. has_bit-contains (first + lo) part m (let p = bit_place first words m (contains-has_bit first words m c) in
    let some : slice_index words (m / 64 - first) ≢ 0 = (λ z. absurd (let e = ap (λ w. bit_at w (m % 64)) z ∙ bit_at-zero (m % 64) in let b = p.2 in omega arith)) in
    let from : lo ≤ m / 64 - first = ⊎_elim (λ b. absurd (some (low (m / 64 - first) b))) (λ g. g) (cases_lt (m / 64 - first) lo) in
    let to : m / 64 - first < hi = ⊎_elim (λ b. b) (λ g. absurd (some (high (m / 64 - first) g p.1))) (cases_lt (m / 64 - first) hi) in
    let within : m / 64 - (first + lo) < hi - lo = (let f = p.0 in omega arith) in
    let at : lo + (m / 64 - (first + lo)) ≡ m / 64 - first = (let f = p.0 in omega arith) in
    bit_from (first + lo) part m (let f = p.0 in omega arith)
    (ap (λ w. bit_at w (m % 64)) (get_or-take (hi - lo) (drop lo words) (m / 64 - (first + lo)) 0 within
    ∙ get_or-drop lo words (m / 64 - (first + lo)) 0 ∙ ap (slice_index words) at) ∙ p.2)))

-- words that have the bits of the numbers of a list, and no others
pub numbers_are : (first : ℕ) (words list : List ℕ) → IsStrictlyIncreasing list
    → ((m : ℕ) → Contains list m → (first ≤ m / 64) × (m / 64 - first < length words))
    → ((m : ℕ) → first ≤ m / 64 → m / 64 - first < length words → has_bit first words m ≡ list_any (λ k. k == m) list)
    → numbers_in first words ≡ list
numbers_are first words list rising within are =
    same_rising (numbers_in first words) list (rising_numbers first words) rising
    (λ m c. let h = contains-has_bit first words m c in let p = bit_place first words m h in contains_from_any list m (sym (are m p.0 p.1) ∙ h))
    (λ m c. let w = within m c in has_bit-contains first words m (are m w.0 w.1 ∙ any_from (λ k. k == m) list m c (eq-eqb _ _ refl)))

-- the least number
pub least_bit : (first : ℕ) (words : List ℕ) (t : ℕ) → t < 64 → bit_at (slice_index words 0) t ≡ 1 → ((i : ℕ) → i < t → bit_at (slice_index words 0) i ≡ 0)
    → slice_index (numbers_in first words) 0 ≡ 64 * first + t
least_bit first words t small one clear =
    let m : ℕ = 64 * first + t in let xs = numbers_in first words in
    let q : m / 64 ≡ first = omega arith in let k : m % 64 ≡ t = omega arith in let zero : m / 64 - first ≡ 0 = omega arith in
    let there = has_bit-contains first words m (bit_from first words m (omega arith) (ap (λ j. bit_at (slice_index words j) (m % 64)) zero ∙ ap (bit_at (slice_index words 0)) k ∙ one)) in
    let some : 0 < length xs = (let c = there.1 in omega arith) in
    let low : slice_index xs 0 ≤ m = ⊎_elim (λ (z : there.0 ≡ 0). let e : get_or xs 0 m ≡ m = ap (λ j. get_or xs j m) (sym z) ∙ there.2 in
    let d = get_or_default xs 0 0 m some in omega arith)
    (λ (n : there.0 ≡ 0 → ⊥). let p = AllPairs-from_increasing xs (rising_numbers first words) 0 there.0 m (omega arith) there.1 in
    let d = get_or_default xs 0 0 m some in let e = there.2 in omega arith)
    (cases_eq there.0 0) in
    let f = slice_index xs 0 in let p = bit_place first words f (contains-has_bit first words f (Contains-get_or xs 0 0 some)) in
    let high : m ≤ f = ⊎_elim (λ (b : f < m). absurd (let c = p.0 in let r : f / 64 - first ≡ 0 = omega arith in let below_t : f % 64 < t = omega arith in
    let e = clear (f % 64) below_t in let g = ap (λ j. bit_at (slice_index words j) (f % 64)) (sym r) ∙ p.2 in omega arith)) (λ g. g) (cases_lt f m) in
    omega arith

-- the word of the first number isn't 0
pub first_word : (first : ℕ) (words list : List ℕ) → numbers_in first words ≡ list → 0 < length list → get_or list 0 0 / 64 ≡ first → 0 < slice_index words 0
first_word first words list e some at =
    let m = get_or list 0 0 in
    let p = bit_place first words m (contains-has_bit first words m (subst (λ xs. Contains xs m) (sym e) (Contains-get_or list 0 0 some))) in
    ⊎_elim (λ (z : slice_index words 0 ≡ 0). absurd (
    let bit : bit_at (slice_index words (m / 64 - first)) (m % 64) ≡ 0 = ap (λ k. bit_at (slice_index words k) (m % 64)) (let k : m / 64 - first ≡ 0 = omega arith in k)
    ∙ ap (λ w. bit_at w (m % 64)) z ∙ bit_at-zero (m % 64) in let b = p.2 in omega arith))
    (λ (ne : slice_index words 0 ≡ 0 → ⊥). omega arith)
    (cases_eq (slice_index words 0) 0)

-- the words that are kept go from the first that isn't 0 to the last
pub kept_words : (first : ℕ) (words : List ℕ) (zeros end : ℕ) → 0 < length (numbers_in first words) → ((k : ℕ) → k < zeros → slice_index words k ≡ 0)
    → (zeros < length words → slice_index words zeros ≢ 0) → ((k : ℕ) → end ≤ k → k < length words → slice_index words k ≡ 0)
    → (zeros < length words) × (zeros < end)
kept_words first words zeros end some low ne high =
    let l : zeros < length words = ⊎_elim (λ l. l) (λ (g : length words ≤ zeros). absurd (
    let none = ap length (no_number first words (λ k b. low k (omega arith))) in omega arith)) (cases_lt zeros (length words)) in
    (l, ⊎_elim (λ b. b) (λ g. absurd (ne l (high zeros g l))) (cases_lt zeros end))
