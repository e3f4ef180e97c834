-- How often a number stands in a list, and pools.
use Rattle.std.proofs.Common.{◌≡◌, ◌≢◌, ℕ, zero, suc, ◌+◌, ◌<◌, ◌≤◌, List, [], ◌∷◌, ◌++◌, length, get_or, set, arith, ap, sym, ◌∙◌, refl}
use Rattle.std.proofs.Common.{get_or-set_same, get_or-set_other, length-append, subst, inl, inr}
use Rattle.std.proofs.Math.ListN.{length-set}
use Rattle.std.proofs.lemmas.Bool.Decides.{nat_tests}
use Rattle.std.proofs.lemmas.List.Sums.{sum_by-cons, sum_by-set, sum_by_push}
use Rattle.std.proofs.lemmas.List.{get_or_default, get_or_past, get_or_append_left}
use Rattle.std.proofs.lemmas.Bool.{cases_eq, cases_lt}
use Rattle.shared_pages.specs.Counts.{is_one, occurs, is_free, IsPool}

pub is_one-same : (x : ℕ) → is_one x x ≡ 1
is_one-same x = grind (arith, nat_tests)

pub is_one-other : (x y : ℕ) → x ≢ y → is_one x y ≡ 0
is_one-other x y h = grind (arith, nat_tests)

pub is_one-le : (x y : ℕ) → is_one x y ≤ 1
is_one-le x y = grind (arith, nat_tests)

pub is_one-holds : (x y : ℕ) → 0 < is_one x y → x ≡ y
is_one-holds x y h = grind (arith, nat_tests)

pub occurs-set : (x : ℕ) (xs : List ℕ) (i y : ℕ) → i < length xs → occurs x (set xs i y) + is_one x (get_or xs i 0) ≡ occurs x xs + is_one x y
occurs-set x xs i y h = sum_by-set (λ z. is_one x z) xs i y 0 h

pub occurs_push : (x : ℕ) (xs : List ℕ) (y : ℕ) → occurs x (xs ++ y ∷ []) ≡ occurs x xs + is_one x y
occurs_push x xs y = sum_by_push (λ z. is_one x z) xs y

pub occurs_cons : (x y : ℕ) (xs : List ℕ) → occurs x (y ∷ xs) ≡ is_one x y + occurs x xs
occurs_cons x y xs = sum_by-cons (λ z. is_one x z) y xs

pub occurs-le-length : (x : ℕ) (xs : List ℕ) → occurs x xs ≤ length xs
occurs-le-length x [] = omega arith
occurs-le-length x (y ∷ xs) = let le = occurs-le-length x xs in let one = is_one-le x y in let more = occurs_cons x y xs in omega (arith, le, one, more)

-- a list that has another number than x has fewer of x than elements
pub occurs-lt-length : (x : ℕ) (xs : List ℕ) (i : ℕ) → i < length xs → get_or xs i 0 ≢ x → occurs x xs < length xs
occurs-lt-length x xs i h ne =
    let le = occurs-le-length x (set xs i x) in
    let s = occurs-set x xs i x h in
    let n = length-set xs i x in
    let o = is_one-other x (get_or xs i 0) (λ e. ne (sym e)) in
    let k = is_one-same x in
    omega (arith, le, s, n, o, k)

-- a list that has a number somewhere has it once or more
pub occurs_at : (xs : List ℕ) (i : ℕ) → i < length xs → 0 < occurs (get_or xs i 0) xs
occurs_at xs i h =
    let s = occurs-set (get_or xs i 0) xs i (suc (get_or xs i 0)) h in
    let k = is_one-same (get_or xs i 0) in
    let z = is_one-other (get_or xs i 0) (suc (get_or xs i 0)) (λ e. absurd (omega (arith, e))) in
    omega (arith, s, k, z)

-- a number that stands once stands in one place
pub occurs_once : (x : ℕ) (xs : List ℕ) (i j : ℕ) → occurs x xs ≡ 1 → i < length xs → j < length xs → get_or xs i 0 ≡ x → get_or xs j 0 ≡ x → i ≡ j
occurs_once x xs i j once h k at also = elim (cases_eq i j) [
  | inl e ↦ e
  | inr ne ↦
      let other : j ≢ i = (λ e. ne (sym e)) in
      let s = occurs-set x xs i (suc x) h in
      let one : is_one x (get_or xs i 0) ≡ 1 = rw at (is_one-same x) in
      let none : is_one x (suc x) ≡ 0 = is_one-other x (suc x) (omega arith) in
      let long = length-set xs i (suc x) in
      let there : get_or (set xs i (suc x)) j 0 ≡ x = get_or-set_other xs i j (suc x) 0 other ∙ also in
      let more : 0 < occurs (get_or (set xs i (suc x)) j 0) (set xs i (suc x)) = occurs_at (set xs i (suc x)) j (omega (arith, long, k)) in
      let more2 : 0 < occurs x (set xs i (suc x)) = subst (λ (y : ℕ). 0 < occurs y (set xs i (suc x))) there more in
      absurd (omega (arith, s, one, none, more2, once))
]

-- a number that stands in no place occurs nowhere
pub occurs_none : (x : ℕ) (xs : List ℕ) → ((j : ℕ) → j < length xs → get_or xs j 0 ≢ x) → occurs x xs ≡ 0
occurs_none x [] h = refl
occurs_none x (y ∷ xs) h =
    let none = is_one-other x y (λ e. h 0 (omega arith) (sym e)) in
    let rest = occurs_none x xs (λ j low. h (suc j) (omega (arith, low))) in
    let more = occurs_cons x y xs in
    omega (arith, none, rest, more)

-- a number that stands in one place alone occurs once
pub once_from_places : (xs : List ℕ) (i : ℕ) → i < length xs → ((j : ℕ) → j < length xs → get_or xs j 0 ≡ get_or xs i 0 → j ≡ i) → occurs (get_or xs i 0) xs ≡ 1
once_from_places xs i h alone =
    let x = get_or xs i 0 in
    let s = occurs-set x xs i (suc x) h in
    let same = is_one-same x in
    let other = is_one-other x (suc x) (λ e. absurd (omega (arith, e))) in
    let none = occurs_none x (set xs i (suc x)) (λ j low e. elim (cases_eq j i) [
      | inl k ↦
          let at : get_or (set xs i (suc x)) i 0 ≡ suc x = get_or-set_same xs i (suc x) 0 h in
          let moved : get_or (set xs i (suc x)) j 0 ≡ get_or (set xs i (suc x)) i 0 = ap (λ (q : ℕ). get_or (set xs i (suc x)) q 0) k in
          absurd (omega (arith, at, moved, e))
      | inr ne ↦
          let long = length-set xs i (suc x) in
          ne (alone j (omega (arith, low, long)) (sym (get_or-set_other xs i j (suc x) 0 ne) ∙ e))
    ]) in
    omega (arith, s, same, other, none)

-- The free list of a pool, at each change.

is_free-set_other : (counts : List ℕ) (p n q : ℕ) → q ≢ p → is_free (set counts p n) q ≡ is_free counts q
is_free-set_other counts p n q ne = ap (λ (c : ℕ). is_one 0 c) (get_or-set_other counts p q n 1 ne)

is_free-set : (counts : List ℕ) (p n : ℕ) → p < length counts → is_free (set counts p n) p ≡ is_one 0 n
is_free-set counts p n h = ap (λ (c : ℕ). is_one 0 c) (get_or-set_same counts p n 1 h)

-- a number of the free list has no owner
pub free_is : (counts free : List ℕ) (room p : ℕ) → IsPool counts (free ++ p ∷ []) room → get_or counts p 1 ≡ 0
free_is counts free room p pool =
    let named = pool.named p in
    let push = occurs_push p free p in
    let same = is_one-same p in
    let most = is_one-le 0 (get_or counts p 1) in
    sym (is_one-holds 0 (get_or counts p 1) (omega (arith, named, push, same, most)))

pub below_from_free : (counts : List ℕ) (p : ℕ) → get_or counts p 1 ≡ 0 → p < length counts
below_from_free counts p e = elim (cases_lt p (length counts)) [
  | inl h ↦ h
  | inr h ↦ let d = get_or_past counts p 1 h in absurd (omega (arith, d, e))
]

-- a list whose first number isn't 0 has one
pub first_below : (xs : List ℕ) → 0 < get_or xs 0 0 → 0 < length xs
first_below [] k = absurd (omega arith)
first_below (x ∷ xs) k = omega arith

-- past the end stands a 1
past_one : (xs : List ℕ) (p : ℕ) → get_or xs p 1 ≡ get_or (xs ++ 1 ∷ []) p 1
past_one [] zero = refl
past_one [] (suc p) = refl
past_one (x ∷ xs) zero = refl
past_one (x ∷ xs) (suc p) = past_one xs p

-- what the free list says of each number, where one count changes
named_set : (counts free next : List ℕ) (p n : ℕ) → p < length counts → ((q : ℕ) → occurs q free ≡ is_free counts q)
    → ((q : ℕ) → q ≢ p → occurs q next ≡ occurs q free) → occurs p next ≡ is_one 0 n → (q : ℕ) → occurs q next ≡ is_free (set counts p n) q
named_set counts free next p n h named others here q = elim (cases_eq q p) [
  | inl e ↦ subst (λ (k : ℕ). occurs k next ≡ is_free (set counts p n) k) (sym e) (here ∙ sym (is_free-set counts p n h))
  | inr ne ↦ others q ne ∙ named q ∙ sym (is_free-set_other counts p n q ne)
]

first_set : (counts : List ℕ) (p n : ℕ) → p < length counts → 0 < get_or counts 0 0 → (p ≡ 0 → 0 < n) → 0 < get_or (set counts p n) 0 0
first_set counts p n h first some = elim (cases_eq 0 p) [
  | inl e ↦ subst (λ (k : ℕ). 0 < get_or (set counts p n) k 0) (sym e) (rw (get_or-set_same counts p n 0 h) (some (sym e)))
  | inr ne ↦ rw (get_or-set_other counts p 0 n 0 ne) first
]

-- the number 0 always has an owner
pub other_free : (counts free : List ℕ) (room p : ℕ) → IsPool counts (free ++ p ∷ []) room → 0 < p
other_free counts free room p pool =
    let e = free_is counts free room p pool in
    let h = below_from_free counts p e in
    let d = get_or_default counts p 0 1 h in
    let first = pool.first in
    elim (cases_lt 0 p) [
      | inl k ↦ k
      | inr k ↦
          let z : p ≡ 0 = omega (arith, k) in
          let at : get_or counts p 0 ≡ get_or counts 0 0 = ap (λ (q : ℕ). get_or counts q 0) z in
          absurd (omega (arith, at, d, e, first))
    ]

pub pool_taken : (counts free : List ℕ) (room p : ℕ) → IsPool counts (free ++ p ∷ []) room → IsPool (set counts p 1) free room
pool_taken counts free room p pool =
    let e = free_is counts free room p pool in
    let h = below_from_free counts p e in
    let zero_at : get_or counts p 0 ≡ 0 = get_or_default counts p 0 1 h ∙ e in
    let named = pool.named p in
    let free_one : is_free counts p ≡ 1 = ap (λ (c : ℕ). is_one 0 c) e in
    let push = occurs_push p free p in
    let one = is_one-same p in
    let s = occurs-set 0 counts p 1 h in
    let s0 : is_one 0 (get_or counts p 0) ≡ 1 = ap (λ (c : ℕ). is_one 0 c) zero_at in
    let long = length-append free (p ∷ []) in
    let total = pool.total in
    let n = length-set counts p 1 in
    let capacity = pool.capacity in
    record {
      first = first_set counts p 1 h pool.first (λ _. omega arith);
      named = named_set counts (free ++ p ∷ []) free p 1 h pool.named
          (λ q ne. let k = occurs_push q free p in let z = is_one-other q p ne in omega (arith, k, z))
          (omega (arith, named, free_one, push, one));
      total = omega (arith, s, s0, long, total);
      capacity = omega (arith, n, capacity);
    }

pub pool_grown : (counts free : List ℕ) (room more : ℕ) → IsPool counts free room → length counts + 1 ≤ more → IsPool (counts ++ 1 ∷ []) free more
pool_grown counts free room more pool h =
    let some : 0 < length counts = first_below counts pool.first in
    let push = occurs_push 0 counts 1 in
    let total = pool.total in
    let long = length-append counts (1 ∷ []) in
    record {
      first = rw (get_or_append_left counts (1 ∷ []) 0 0 some) pool.first;
      named = λ p. pool.named p ∙ ap (λ (c : ℕ). is_one 0 c) (past_one counts p);
      total = omega (arith, push, total);
      capacity = omega (arith, long, h);
    }

-- a number that keeps an owner
pub pool_kept : (counts free : List ℕ) (room p n : ℕ) → IsPool counts free room → p < length counts → 0 < get_or counts p 0 → 0 < n
    → IsPool (set counts p n) free room
pool_kept counts free room p n pool h owned some =
    let s = occurs-set 0 counts p n h in
    let was : is_one 0 (get_or counts p 0) ≡ 0 = is_one-other 0 (get_or counts p 0) (omega arith) in
    let now : is_one 0 n ≡ 0 = is_one-other 0 n (omega arith) in
    let same = get_or_default counts p 1 0 h in
    let past : is_one 0 (get_or counts p 1) ≡ 0 = is_one-other 0 (get_or counts p 1) (omega arith) in
    let named = pool.named p in
    let total = pool.total in
    let long = length-set counts p n in
    let capacity = pool.capacity in
    record {
      first = first_set counts p n h pool.first (λ _. some);
      named = named_set counts free free p n h pool.named (λ q _. refl) (named ∙ past ∙ sym now);
      total = omega (arith, s, was, now, total);
      capacity = omega (arith, long, capacity);
    }

-- a number that loses its last owner
pub pool_freed : (counts free : List ℕ) (room p : ℕ) → IsPool counts free room → p < length counts → 0 < p → 0 < get_or counts p 0
    → IsPool (set counts p 0) (free ++ p ∷ []) room
pool_freed counts free room p pool h other owned =
    let s = occurs-set 0 counts p 0 h in
    let was : is_one 0 (get_or counts p 0) ≡ 0 = is_one-other 0 (get_or counts p 0) (omega arith) in
    let same = get_or_default counts p 1 0 h in
    let past : is_one 0 (get_or counts p 1) ≡ 0 = is_one-other 0 (get_or counts p 1) (omega arith) in
    let named = pool.named p in
    let push = occurs_push p free p in
    let one = is_one-same p in
    let total = pool.total in
    let n = length-set counts p 0 in
    let long = length-append free (p ∷ []) in
    let capacity = pool.capacity in
    record {
      first = first_set counts p 0 h pool.first (λ e. absurd (omega (arith, e)));
      named = named_set counts free (free ++ p ∷ []) p 0 h pool.named
          (λ q ne. let k = occurs_push q free p in let z = is_one-other q p ne in omega (arith, k, z))
          (omega (arith, named, past, push, one));
      total = omega (arith, s, was, total, long);
      capacity = omega (arith, n, capacity);
    }

-- the free list has room for one more
pub room_left : (counts free : List ℕ) (room : ℕ) → IsPool counts free room → length free < room
room_left counts free room pool =
    let total = pool.total in
    let capacity = pool.capacity in
    let less = occurs-lt-length 0 counts 0 (first_below counts pool.first) (let f = pool.first in omega (arith, f)) in
    omega (arith, total, capacity, less)

-- no more numbers are free than there are, less one
pub free_within : (counts free : List ℕ) (room : ℕ) → IsPool counts free room → length free < length counts
free_within counts free room pool =
    let total = pool.total in
    let less = occurs-lt-length 0 counts 0 (first_below counts pool.first) (let f = pool.first in omega (arith, f)) in
    omega (arith, total, less)
