-- Two rising lists of the same numbers are equal.
use Rattle.std.proofs.Common.{◌≡◌, ℕ, suc, ◌+◌, ◌<◌, ◌≤◌, List, [], ◌∷◌, length, map, take, drop, get_or, refl, sym, ap, ◌∙◌, subst, arith, ⊎_elim, length-take}
use Rattle.std.specs.List.{Contains, insert}
use Rattle.std.specs.List.Sorted.{IsStrictlyIncreasing}
use Rattle.std.proofs.lemmas.List.Kept.{AllPairs-from_increasing}
use Rattle.traces.proofs.Lists.{contains_here, contains_there, contains_cases}
use Rattle.code_form.proofs.Lists.{rising-insert}

rising_tail : (x : ℕ) (xs : List ℕ) → IsStrictlyIncreasing (x ∷ xs) → IsStrictlyIncreasing xs
rising_tail x xs r k l = AllPairs-from_increasing (x ∷ xs) r (suc k) (suc (k + 1)) 0 (omega arith) (omega arith)

head_below : (x m : ℕ) (xs : List ℕ) → IsStrictlyIncreasing (x ∷ xs) → Contains xs m → x < m
head_below x m xs r h =
    let l = h.1 in let e = h.2 in let b = AllPairs-from_increasing (x ∷ xs) r 0 (suc h.0) m (omega arith) (omega arith) in omega arith

inside : (x y m : ℕ) (xs ys : List ℕ) → x ≡ y → IsStrictlyIncreasing (x ∷ xs) → Contains (y ∷ ys) m → Contains xs m → Contains ys m
inside x y m xs ys e r h c = ⊎_elim (λ s. absurd (let b = head_below x m xs r c in omega arith)) (λ t. t) (contains_cases y m ys h)

pub same_rising : (xs ys : List ℕ) → IsStrictlyIncreasing xs → IsStrictlyIncreasing ys → ((m : ℕ) → Contains xs m → Contains ys m)
    → ((m : ℕ) → Contains ys m → Contains xs m) → xs ≡ ys
same_rising [] [] r s f g = refl
same_rising [] (y ∷ ys) r s f g = absurd (let h = (g y (contains_here y ys)).1 in omega arith)
same_rising (x ∷ xs) [] r s f g = absurd (let h = (f x (contains_here x xs)).1 in omega arith)
same_rising (x ∷ xs) (y ∷ ys) r s f g =
    let low : x ≤ y = ⊎_elim (λ e. omega arith) (λ c. let b = head_below x y xs r c in omega arith) (contains_cases x y xs (g y (contains_here y ys))) in
    let high : y ≤ x = ⊎_elim (λ e. omega arith) (λ c. let b = head_below y x ys s c in omega arith) (contains_cases y x ys (f x (contains_here x xs))) in
    let e : x ≡ y = omega arith in
    let rest : xs ≡ ys = same_rising xs ys (rising_tail x xs r) (rising_tail y ys s)
    (λ m c. inside x y m xs ys e r (f m (contains_there x m xs c)) c)
    (λ m c. inside y x m ys xs (sym e) s (g m (contains_there y m ys c)) c) in
    (λ i. e i ∷ rest i)

pub increasing-insert : (xs : List ℕ) (at n : ℕ) → IsStrictlyIncreasing xs → at ≤ length xs → ((k : ℕ) → k < at → get_or xs k 0 < n)
    → ((k : ℕ) → at ≤ k → k < length xs → n < get_or xs k 0) → IsStrictlyIncreasing (insert xs at n)
increasing-insert xs at n r l low high k h =
    rising-insert xs at n (λ i j b c. AllPairs-from_increasing xs r i j 0 b c) l low high k (k + 1) (omega arith) h
