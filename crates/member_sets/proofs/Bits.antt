-- Sets as bits of words: what they contain, and how many numbers they have.
use Rattle.std.proofs.Common.{◌≡◌, ◌≢◌, ℕ, zero, suc, ◌+◌, ◌-◌, ◌*◌, ◌/◌, ◌%◌, ◌^◌, ◌<◌, ◌≤◌, Bool, true, false, ◌&&◌, ◌||◌, ◌==◌, not, cond, List, [], ◌∷◌, ◌++◌}
use Rattle.std.proofs.Common.{rules, length, map, take, replicate, get_or, refl, sym, ap, ◌∙◌, subst, arith, ⊎_elim, append-nil, append_assoc, length-append}
use Rattle.std.specs.Prelude.{nat_le, slice_index, IsTrue, ◌↔◌}
use Rattle.std.specs.List.{All, Contains, filter, list_any}
use Rattle.std.specs.List.Sorted.{IsStrictlyIncreasing}
use Rattle.std.specs.Int.{bit_at, trailing_zeros, w64}
use Rattle.std.specs.Int.Count.{ones}
use Rattle.std.proofs.lemmas.Bool.{true≢false, eqb-true, eq-eqb, ne_eqb, false_from_ne_true, cases_lt, cases_eq, cases_Bool}
use Rattle.std.proofs.lemmas.Bool.Decides.{nat_tests}
use Rattle.std.proofs.lemmas.List.{take_more, get_or-replicate, length-replicate, get_or_past, get_or_append_left, get_or_push, length-map, map-append}
use Rattle.std.proofs.lemmas.List.Elements.{filter-append, Contains-get_or}
use Rattle.std.proofs.lemmas.List.Folds.{list_any-append}
use Rattle.std.proofs.lemmas.List.Kept.{IsStrictlyIncreasing-filter}
use Rattle.std.proofs.lemmas.List.Sums.{length-filter, count_by-le-length}
use Rattle.std.proofs.lemmas.Nat.{ones_cat, mod-pow-add, mod_below, pow_pos, shr-shr}
use Rattle.std.proofs.Math.Nat.{mod-eq_of_lt}
use Rattle.std.proofs.lemmas.Nat.Bits.{bit_at-zero, bit_at-lt, bit_at_above, bit_at-trailing_zeros}
use Rattle.traces.specs.Together.{below}
use Rattle.traces.proofs.Below.{below_below, has_below, length-below, IsStrictlyIncreasing-below}
use Rattle.traces.proofs.Bools.{on_bool, or_false}
use Rattle.traces.proofs.Lists.{from_filter, to_filter, contains_here}
use Rattle.traces.proofs.Turns.{some_from}
use Rattle.am_base.specs.declared.limits.TheConstants.{MAX_MUTANTS}
use Rattle.member_sets.specs.Members.{IsMemberList}
use Rattle.member_sets.proofs.Lists.{flipped}
use Rattle.member_sets.specs.Planes.{has_bit, upto, numbers_in, bits_below}

-- what a set bit tells
pub bit_place : (first : ℕ) (words : List ℕ) (m : ℕ) → has_bit first words m ≡ true
    → (first ≤ m / 64) × (m / 64 - first < length words) × (bit_at (slice_index words (m / 64 - first)) (m % 64) ≡ 1)
unfolding has_bit
bit_place first words m h =
    let bit : bit_at (slice_index words (m / 64 - first)) (m % 64) ≡ 1 = grind (arith, nat_tests) in (
      grind (arith, nat_tests),
      ⊎_elim (λ l. l) (λ g. absurd (
          let zero : bit_at (slice_index words (m / 64 - first)) (m % 64) ≡ 0 =
          ap (λ w. bit_at w (m % 64)) (get_or_past words (m / 64 - first) 0 g) ∙ bit_at-zero (m % 64) in omega arith)) (cases_lt (m / 64 - first) (length words)),
      bit,
    )

pub bit_from : (first : ℕ) (words : List ℕ) (m : ℕ) → first ≤ m / 64 → bit_at (slice_index words (m / 64 - first)) (m % 64) ≡ 1
    → has_bit first words m ≡ true
unfolding has_bit
bit_from first words m l e = grind (arith, nat_tests)

-- where the words begin no later, the set bit is all that counts
pub bit_test : (first : ℕ) (words : List ℕ) (m : ℕ) → first ≤ m / 64 → has_bit first words m ≡ (bit_at (slice_index words (m / 64 - first)) (m % 64) == 1)
unfolding has_bit
bit_test first words m l = let t : nat_le first (m / 64) ≡ true = grind (arith, nat_tests) in rw t refl

pub no_bit : (first : ℕ) (words : List ℕ) (m : ℕ) → (first ≤ m / 64 → m / 64 - first < length words → ⊥) → has_bit first words m ≡ false
no_bit first words m h = false_from_ne_true _ (λ t. let p = bit_place first words m t in h p.0 p.1)

pub no_bit_of_zeros : (first : ℕ) (words : List ℕ) (m : ℕ) → ((k : ℕ) → slice_index words k ≡ 0) → has_bit first words m ≡ false
no_bit_of_zeros first words m h = false_from_ne_true _ (λ t. let p = bit_place first words m t in
    let z = ap (λ w. bit_at w (m % 64)) (h (m / 64 - first)) ∙ bit_at-zero (m % 64) in let b = p.2 in omega arith)

pub zeros_at : (n k : ℕ) → slice_index (replicate n 0) k ≡ 0
zeros_at n k = ⊎_elim (λ l. get_or-replicate n k 0 0 l) (λ (g : n ≤ k). let l : length (replicate {A = ℕ} n 0) ≡ n = length-replicate n 0 in
    get_or_past (replicate n 0) k 0 (omega arith)) (cases_lt k n)

-- whether a number stands among one more
pub any_taken : (n : ℕ) (xs : List ℕ) (i : ℕ) → i < length xs → list_any (λ k. k == n) (take (i + 1) xs) ≡ (list_any (λ k. k == n) (take i xs) || (n == slice_index xs i))
any_taken n xs i l =
    ap (list_any (λ k. k == n)) (take_more xs i 0 l) ∙ list_any-append (λ k. k == n) (take i xs) (slice_index xs i ∷ [])
    ∙ ap (λ b. list_any (λ k. k == n) (take i xs) || b) (or_false (slice_index xs i == n) ∙ flipped (slice_index xs i) n)

pub has_bit-contains : (first : ℕ) (words : List ℕ) (m : ℕ) → has_bit first words m ≡ true → Contains (numbers_in first words) m
unfolding numbers_in
has_bit-contains first words m h =
    let p = bit_place first words m h in
    to_filter (has_bit first words) (below (64 * (first + length words))) m (has_below (64 * (first + length words)) m (omega (arith, p.0, p.1))) h

pub contains-has_bit : (first : ℕ) (words : List ℕ) (m : ℕ) → Contains (numbers_in first words) m → has_bit first words m ≡ true
unfolding numbers_in
contains-has_bit first words m h = (from_filter (has_bit first words) (below (64 * (first + length words))) m h).1

pub rising_numbers : (first : ℕ) (words : List ℕ) → IsStrictlyIncreasing (numbers_in first words)
unfolding numbers_in
rising_numbers first words =
    IsStrictlyIncreasing-filter (has_bit first words) (below (64 * (first + length words))) (IsStrictlyIncreasing-below (64 * (first + length words)))

-- one number more
filter_more : (p : ℕ → Bool) (n : ℕ) → filter p (below (suc n)) ≡ filter p (below n) ++ filter p (n ∷ [])
filter_more p n = filter-append p (below n) (n ∷ [])

pub upto_yes : (first : ℕ) (words : List ℕ) (n : ℕ) → has_bit first words n ≡ true → upto first words (suc n) ≡ upto first words n ++ n ∷ []
upto_yes first words n h = filter_more (has_bit first words) n ∙ ap (λ xs. upto first words n ++ xs) (rw h refl)

pub upto_no : (first : ℕ) (words : List ℕ) (n : ℕ) → has_bit first words n ≡ false → upto first words (suc n) ≡ upto first words n
upto_no first words n h = filter_more (has_bit first words) n ∙ ap (λ xs. upto first words n ++ xs) (rw h refl) ∙ append-nil _

pub bits_none : (w : ℕ) → bits_below 0 w ≡ []
unfolding bits_below
bits_none w = refl

pub bits_yes : (r w : ℕ) → bit_at w r ≡ 1 → bits_below (suc r) w ≡ bits_below r w ++ r ∷ []
unfolding bits_below
bits_yes r w h = filter_more (λ k. bit_at w k == 1) r ∙ ap (λ xs. bits_below r w ++ xs) (let e : (bit_at w r == 1) ≡ true = eq-eqb _ _ h in rw e refl)

pub bits_no : (r w : ℕ) → bit_at w r ≡ 0 → bits_below (suc r) w ≡ bits_below r w
unfolding bits_below
bits_no r w h = filter_more (λ k. bit_at w k == 1) r ∙ ap (λ xs. bits_below r w ++ xs) (let e : (bit_at w r == 1) ≡ false = ap (λ b. b == 1) h in rw e refl)
    ∙ append-nil _

pub upto_none : (first : ℕ) (words : List ℕ) (n : ℕ) → n ≤ 64 * first → upto first words n ≡ []
upto_none first words zero h = refl
upto_none first words (suc n) h =
    upto_no first words n (on_bool (has_bit first words n) (λ t. absurd (let p = bit_place first words n t in omega (arith, p.0))) (λ f. f))
    ∙ upto_none first words n (omega arith)

-- the numbers of one word
pub upto_word : (first : ℕ) (words : List ℕ) (j r : ℕ) → r ≤ 64
    → upto first words (64 * (first + j) + r) ≡ upto first words (64 * (first + j)) ++ map (λ k. 64 * (first + j) + k) (bits_below r (slice_index words j))
upto_word first words j zero h = let e : 64 * (first + j) + 0 ≡ 64 * (first + j) = omega arith in ap (upto first words) e ∙ sym (append-nil _)
    ∙ ap (λ xs. upto first words (64 * (first + j)) ++ map (λ k. 64 * (first + j) + k) xs) (sym (bits_none (slice_index words j)))
upto_word first words j (suc r) h =
    let base = 64 * (first + j) in let w = slice_index words j in
    let e : base + suc r ≡ suc (base + r) = omega arith in
    let q : (base + r) / 64 ≡ first + j = omega arith in let k : (base + r) % 64 ≡ r = omega arith in
    let at : (base + r) / 64 - first ≡ j = omega arith in
    let rest = upto_word first words j r (omega arith) in
    let bit : bit_at (slice_index words ((base + r) / 64 - first)) ((base + r) % 64) ≡ bit_at w r = (rw at (rw k refl)) in
    ap (upto first words) e ∙ ⊎_elim
    (λ (y : bit_at w r ≡ 1). upto_yes first words (base + r) (bit_from first words (base + r) (omega arith) (bit ∙ y))
    ∙ ap (λ xs. xs ++ (base + r) ∷ []) rest
    ∙ append_assoc (upto first words base) (map (λ i. base + i) (bits_below r w)) ((base + r) ∷ [])
    ∙ ap (λ xs. upto first words base ++ xs) (sym (ap (map (λ i. base + i)) (bits_yes r w y) ∙ map-append (λ i. base + i) (bits_below r w) (r ∷ []))))
    (λ (n : bit_at w r ≡ 1 → ⊥). let none : bit_at w r ≡ 0 = (let b = bit_at-lt w r in omega arith) in
    upto_no first words (base + r) (on_bool (has_bit first words (base + r))
    (λ t. absurd (n (sym bit ∙ (bit_place first words (base + r) t).2))) (λ f. f))
    ∙ rest ∙ ap (λ xs. upto first words base ++ map (λ i. base + i) xs) (sym (bits_no r w none)))
    (cases_eq (bit_at w r) 1)

ones_zero : ones 0 ≡ 0
unfolding ones
ones_zero = refl

ones_one : ones 1 ≡ 1
unfolding ones
ones_one = refl

pub length-bits_below : (r w : ℕ) → length (bits_below r w) ≡ ones (w % 2 ^ r)
length-bits_below zero w = let e : w % 2 ^ 0 ≡ 0 = omega arith in ap length (bits_none w) ∙ sym (ap ones e ∙ ones_zero)
length-bits_below (suc r) w =
    let cat : ones (w % 2 ^ suc r) ≡ ones (bit_at w r) + ones (w % 2 ^ r) =
    ap (λ k. ones (w % 2 ^ k)) (let e : suc r ≡ 1 + r = omega arith in e) ∙ ap ones (mod-pow-add w 1 r) ∙ ones_cat r (bit_at w r) (w % 2 ^ r) (mod_below w (2 ^ r) (pow_pos r)) in
    let rest = length-bits_below r w in ⊎_elim
    (λ (y : bit_at w r ≡ 1). let one : ones (bit_at w r) ≡ 1 = ap ones y ∙ ones_one in
    omega (arith, ap length (bits_yes r w y), length-append (bits_below r w) (r ∷ []), rest, cat, one))
    (λ (n : bit_at w r ≡ 1 → ⊥). let none : bit_at w r ≡ 0 = (let b = bit_at-lt w r in omega arith) in
    let zero : ones (bit_at w r) ≡ 0 = ap ones none ∙ ones_zero in
    omega (arith, ap length (bits_no r w none), rest, cat, zero))
    (cases_eq (bit_at w r) 1)

-- how many numbers there are up to the end of a word, or up to a bit of it
pub count_word : (first : ℕ) (words : List ℕ) (j r : ℕ) → r ≤ 64
    → length (upto first words (64 * (first + j) + r)) ≡ length (upto first words (64 * (first + j))) + ones (slice_index words j % 2 ^ r)
count_word first words j r h =
    let base = 64 * (first + j) in let w = slice_index words j in
    ap length (upto_word first words j r h) ∙ length-append (upto first words base) (map (λ k. base + k) (bits_below r w))
    ∙ ap (λ n. length (upto first words base) + n) (length-map (bits_below r w) (λ k. base + k) ∙ length-bits_below r w)

pub count_whole : (first : ℕ) (words : List ℕ) (j : ℕ) → slice_index words j < 2 ^ 64
    → length (upto first words (64 * (first + (j + 1)))) ≡ length (upto first words (64 * (first + j))) + ones (slice_index words j)
count_whole first words j small =
    let next : 64 * (first + (j + 1)) ≡ 64 * (first + j) + 64 = omega arith in
    ap (λ n. length (upto first words n)) next ∙ count_word first words j 64 (omega arith)
    ∙ ap (λ w. length (upto first words (64 * (first + j))) + ones w) (mod-eq_of_lt small)

pub few_upto : (first : ℕ) (words : List ℕ) (n : ℕ) → length (upto first words n) ≤ n
few_upto first words n =
    let a = length-filter (has_bit first words) (below n) in let b = count_by-le-length (has_bit first words) (below n) in let c = length-below n in omega arith

-- a number of the set stands behind the lower ones
index : (first : ℕ) (words : List ℕ) (m n : ℕ) → m < n → has_bit first words m ≡ true
    → (length (upto first words m) < length (upto first words n)) × (get_or (upto first words n) (length (upto first words m)) 0 ≡ m)
index first words m zero l h = absurd (omega arith)
index first words m (suc n) l h = ⊎_elim
    (λ (e : m ≡ n). let here : has_bit first words n ≡ true = subst (λ k. has_bit first words k ≡ true) e h in
    let at : length (upto first words m) ≡ length (upto first words n) = ap (λ k. length (upto first words k)) e in
    let more = upto_yes first words n here in (
      omega (arith, at, ap length more, length-append (upto first words n) (n ∷ [])),
      ap (λ xs. get_or xs (length (upto first words m)) 0) more ∙ get_or_push (upto first words n) n 0 (length (upto first words m)) (sym at) ∙ sym e,
    ))
    (λ (ne : m ≡ n → ⊥). let rest = index first words m n (omega arith) h in on_bool (has_bit first words n)
    (λ t. let more = upto_yes first words n t in (
      omega (arith, rest.0, ap length more, length-append (upto first words n) (n ∷ [])),
      ap (λ xs. get_or xs (length (upto first words m)) 0) more
          ∙ get_or_append_left (upto first words n) (n ∷ []) 0 (length (upto first words m)) rest.0 ∙ rest.1,
    ))
    (λ f. let same = upto_no first words n f in (
      omega (arith, rest.0, ap length same),
      ap (λ xs. get_or xs (length (upto first words m)) 0) same ∙ rest.1,
    )))
    (cases_eq m n)

pub index_of_bit : (first : ℕ) (words : List ℕ) (m : ℕ) → has_bit first words m ≡ true
    → (length (upto first words m) < length (numbers_in first words)) × (get_or (numbers_in first words) (length (upto first words m)) 0 ≡ m)
unfolding numbers_in
index_of_bit first words m h = let p = bit_place first words m h in index first words m (64 * (first + length words)) (omega (arith, p.0, p.1)) h

-- places without a bit
pub bits_skip : (r k w : ℕ) → ((i : ℕ) → r ≤ i → i < r + k → bit_at w i ≡ 0) → bits_below (r + k) w ≡ bits_below r w
bits_skip r zero w h = ap (λ n. bits_below n w) (let e : r + 0 ≡ r = omega arith in e)
bits_skip r (suc k) w h =
    ap (λ n. bits_below n w) (let e : r + suc k ≡ suc (r + k) = omega arith in e) ∙ bits_no (r + k) w (h (r + k) (omega arith) (omega arith))
    ∙ bits_skip r k w (λ i a b. h i a (omega arith))

-- the next bit of a word, of which `rest` is left
pub next_bit : (w at rest skip : ℕ) → rest ≡ w / 2 ^ at → w < 2 ^ 64 → skip < 64 → bit_at rest skip ≡ 1 → ((i : ℕ) → i < skip → bit_at rest i ≡ 0)
    → (at + skip < 64) × (bits_below (at + skip + 1) w ≡ bits_below at w ++ (at + skip) ∷ [])
next_bit w at rest skip e small l one none =
    let moved : (i : ℕ) → bit_at rest i ≡ bit_at w (at + i) = λ i. ap (λ n. bit_at n i) e ∙ ap (λ n. n % 2) (shr-shr w at i) in
    let set : bit_at w (at + skip) ≡ 1 = sym (moved skip) ∙ one in
    let inside : at + skip < 64 = ⊎_elim (λ b. b) (λ g. absurd (let z = bit_at_above w 64 (at + skip) small g in omega arith)) (cases_lt (at + skip) 64) in
    let clear : (i : ℕ) → at ≤ i → i < at + skip → bit_at w i ≡ 0 = λ i a b. let k : at + (i - at) ≡ i = omega arith in
    ap (bit_at w) (sym k) ∙ sym (moved (i - at)) ∙ none (i - at) (omega arith) in
    let more : at + skip + 1 ≡ suc (at + skip) = omega arith in
    (inside, ap (λ n. bits_below n w) more ∙ bits_yes (at + skip) w set ∙ ap (λ xs. xs ++ (at + skip) ∷ []) (bits_skip at skip w clear))

-- no bit is left
pub last_bit : (w at : ℕ) → 0 ≡ w / 2 ^ at → at ≤ 64 → bits_below 64 w ≡ bits_below at w
last_bit w at e l =
    let all : at + (64 - at) ≡ 64 = omega arith in
    ap (λ n. bits_below n w) (sym all) ∙ bits_skip at (64 - at) w (λ i a b. let k : at + (i - at) ≡ i = omega arith in
    ap (bit_at w) (sym k) ∙ sym (ap (λ n. n % 2) (shr-shr w at (i - at))) ∙ sym (ap (λ n. bit_at n (i - at)) e) ∙ bit_at-zero (i - at))

-- words without a bit have no number
pub no_number : (first : ℕ) (words : List ℕ) → ((k : ℕ) → k < length words → slice_index words k ≡ 0) → numbers_in first words ≡ []
no_number first words h = none_from (numbers_in first words) (λ m c. let p = bit_place first words m (contains-has_bit first words m c) in
    let z = ap (λ w. bit_at w (m % 64)) (h (m / 64 - first) p.1) ∙ bit_at-zero (m % 64) in let b = p.2 in omega arith)
  where
    none_from : (xs : List ℕ) → ((m : ℕ) → Contains xs m → ⊥) → xs ≡ []
    none_from [] f = refl
    none_from (x ∷ xs) f = absurd (f x (contains_here x xs))

-- and a word that isn't 0 has one
pub some_number : (first : ℕ) (words : List ℕ) (k : ℕ) → slice_index words k ≢ 0 → slice_index words k < 2 ^ 64 → 0 < length (numbers_in first words)
some_number first words k ne small =
    let w = slice_index words k in let t = trailing_zeros w64 w in let h = bit_at-trailing_zeros w64 w (omega arith) small in
    let m : ℕ = 64 * (first + k) + t in let l = h.0 in
    let q : m / 64 - first ≡ k = omega arith in let r : m % 64 ≡ t = omega arith in
    let bit : bit_at (slice_index words (m / 64 - first)) (m % 64) ≡ 1 = ap (λ j. bit_at (slice_index words j) (m % 64)) q ∙ ap (bit_at w) r ∙ h.1 in
    some_from (numbers_in first words) m (has_bit-contains first words m (bit_from first words m (omega arith) bit))

-- a test that is the bit tells whether the set contains the number
pub set_iff : (b : Bool) (first : ℕ) (words : List ℕ) (m : ℕ) → b ≡ has_bit first words m → IsTrue b ↔ Contains (numbers_in first words) m
set_iff true first words m e = ((λ t. has_bit-contains first words m (sym e)), (λ c. search rules))
set_iff false first words m e = (
  (λ t. absurd (search (rules, t))),
  (λ c. absurd (true≢false (sym (contains-has_bit first words m c) ∙ sym e))),
)

-- few words have the members of a set
most_numbers : (first : ℕ) (words : List ℕ) → 64 * (first + length words) ≤ MAX_MUTANTS → length (numbers_in first words) ≤ MAX_MUTANTS
unfolding numbers_in
most_numbers first words few = let f = few_upto first words (64 * (first + length words)) in omega arith

pub plane_list : (first : ℕ) (words : List ℕ) → 64 * (first + length words) ≤ MAX_MUTANTS → 0 < length (numbers_in first words) → IsMemberList (numbers_in first words)
plane_list first words few some = record {
  some = some;
  few = most_numbers first words few;
  rising = rising_numbers first words;
  within = λ k d l. let p = bit_place first words _ (contains-has_bit first words _ (Contains-get_or (numbers_in first words) k d l)) in omega (arith, p.0, p.1);
}
