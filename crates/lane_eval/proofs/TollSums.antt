-- The tolls of several variants of one place.
use Rattle.std.proofs.Common.{◌≡◌, ℕ, ◌≤◌, List, [], ◌∷◌, length, arith, ap}
use Rattle.std.specs.Prelude.{sum_by, take}
use Rattle.std.proofs.lemmas.List.{take_all}
use Rattle.std.proofs.lemmas.List.Sums.{sum_by-cons}

pub few_tolls : (f : ℕ → ℕ) (xs : List ℕ) → ((v : ℕ) → f v ≤ 1) → sum_by f xs ≤ length xs
few_tolls f [] h = omega arith
few_tolls f (x ∷ xs) h = omega (arith, sum_by-cons f x xs, few_tolls f xs h, h x)

pub whole_sum : (f : ℕ → ℕ) (xs : List ℕ) (i : ℕ) → length xs ≤ i → sum_by f (take i xs) ≡ sum_by f xs
whole_sum f xs i h = ap (sum_by f) (take_all i xs h)
