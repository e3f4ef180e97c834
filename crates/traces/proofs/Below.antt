-- Counts and tests over 0, 1, .., n - 1.
use Rattle.std.proofs.Common.{◌∙◌, ◌+◌, ◌≡◌, ℕ, zero, suc, ◌≤◌, ◌<◌, Bool, true, false, ◌&&◌, ◌||◌, not, cond, List, [], ◌∷◌, nat_lt, refl, sym, ap, arith}
use Rattle.std.proofs.Common.{⊎_elim, length-append, get_or, length}
use Rattle.std.specs.List.{list_any, count_by, sum_by, Contains}
use Rattle.std.proofs.lemmas.Bool.{true≢false, or_parts, lt-ltb, le-ltb, cases_lt}
use Rattle.std.proofs.lemmas.List.Sums.{sum_by_push, sum_by-cons}
use Rattle.std.proofs.lemmas.List.Folds.{list_any-append}
use Rattle.std.proofs.lemmas.List.Elements.{Contains-push_cases, Contains-push, Contains-append_left}
use Rattle.std.specs.List.Sorted.{IsStrictlyIncreasing}
use Rattle.std.proofs.lemmas.List.{get_or_append_left, get_or_push}
use Rattle.traces.specs.Together.{below}
use Rattle.traces.proofs.Bools.{step_one, or_false}

pub sum_below : (f g : ℕ → ℕ) (n : ℕ) → ((k : ℕ) → k < n → f k ≡ g k) → sum_by f (below n) ≡ sum_by g (below n)
sum_below f g zero h = refl
sum_below f g (suc n) h = rw (sum_by_push f (below n) n, sum_by_push g (below n) n) (let a = sum_below f g n (λ k l. h k (omega arith)) in let b =
    h n (omega arith) in omega arith)

pub count_below : (p q : ℕ → Bool) (n : ℕ) → ((k : ℕ) → k < n → p k ≡ q k) → count_by p (below n) ≡ count_by q (below n)
count_below p q n h = sum_below (λ k. cond (p k) 1 0) (λ k. cond (q k) 1 0) n (λ k l. ap (λ b. cond b 1 0) (h k l))

pub any_below : (p q : ℕ → Bool) (n : ℕ) → ((k : ℕ) → k < n → p k ≡ q k) → list_any p (below n) ≡ list_any q (below n)
any_below p q zero h = refl
any_below p q (suc n) h = rw (list_any-append p (below n) (n ∷ []), list_any-append q (below n) (n ∷ []))
    (let a = any_below p q n (λ k l. h k (omega arith)) in let b = h n (omega arith) in cc)

pub below_below : (n k : ℕ) → Contains (below n) k → k < n
below_below zero k h = absurd (let l = h.1 in omega arith)
below_below (suc n) k h = ⊎_elim (λ c. let l = below_below n k c in omega arith) (λ e. omega arith) (Contains-push_cases (below n) n k h)

pub has_below : (n k : ℕ) → k < n → Contains (below n) k
has_below zero k h = absurd (omega arith)
has_below (suc n) k h = ⊎_elim
    (λ l. Contains-append_left (below n) (n ∷ []) k (has_below n k l))
    (λ g. let e : k ≡ n = omega arith in rw e (Contains-push (below n) n))
    (cases_lt k n)

none_up_to : (r : ℕ → Bool) (y b : ℕ) → y ≤ b → (nat_lt b y && r b || false) ≡ false
none_up_to r y b h = rw (le-ltb b y h)

pub any_up_to : (r : ℕ → Bool) (y n : ℕ) → y ≤ n → list_any (λ k. nat_lt k y && r k) (below n) ≡ list_any r (below y)
any_up_to r y zero h = let e : y ≡ 0 = omega arith in rw e
any_up_to r y (suc n) h = ⊎_elim
    (λ l. rw (list_any-append (λ k. nat_lt k y && r k) (below n) (n ∷ []), none_up_to r y n (omega arith), any_up_to r y n (omega arith))
    (or_false (list_any r (below y))))
    (λ g. let e : y ≡ suc n = omega arith in rw e (any_below (λ k. nat_lt k (suc n) && r k) r (suc n) (λ k l. rw (lt-ltb k (suc n) l))))
    (cases_lt y (suc n))

count_none : (q : ℕ → Bool) (r : ℕ → Bool) (xs : List ℕ) → list_any q xs ≡ false → count_by (λ y. q y && r y) xs ≡ 0
count_none q r [] h = refl
count_none q r (x ∷ xs) h = let p = or_parts (q x) (list_any q xs) h in
    rw (sum_by-cons (λ y. cond (q y && r y) 1 0) x xs) (rw p.0 (let i = count_none q r xs p.1 in omega arith))

pub one_least : (q : ℕ → Bool) (n : ℕ) → list_any q (below n) ≡ true → count_by (λ y. q y && not (list_any q (below y))) (below n) ≡ 1
one_least q zero h = absurd (true≢false (sym h))
one_least q (suc n) h = rw (sum_by_push (λ y. cond (q y && not (list_any q (below y))) 1 0) (below n) n)
    (step_one (list_any q (below n)) (q n) (count_by (λ y. q y && not (list_any q (below y))) (below n)) (one_least q n)
    (count_none q (λ y. not (list_any q (below y))) (below n)) (rw (list_any-append q (below n) (n ∷ [])) at h))

pub length-below : (n : ℕ) → length (below n) ≡ n
length-below zero = refl
length-below (suc n) = let i = length-below n in let a = length-append (below n) (n ∷ []) in omega arith

pub get_or-below : (n k d : ℕ) → k < n → get_or (below n) k d ≡ k
get_or-below zero k d h = absurd (omega arith)
get_or-below (suc n) k d h = let l = length-below n in ⊎_elim
    (λ b. get_or_append_left (below n) (n ∷ []) d k (omega arith) ∙ get_or-below n k d b)
    (λ g. let e : k ≡ n = omega arith in rw e (get_or_push (below n) n d n l))
    (cases_lt k n)

pub IsStrictlyIncreasing-below : (n : ℕ) → IsStrictlyIncreasing (below n)
IsStrictlyIncreasing-below n k h =
    let l = length-below n in
    let a = get_or-below n k 0 (omega arith) in let b = get_or-below n (k + 1) 0 (omega arith) in omega arith
