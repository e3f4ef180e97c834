-- The numbers that are taken are different, and have that of each mark that is set.
use Rattle.std.specs.Prelude.{◌≡◌, ℕ, zero, suc, ◌+◌, ◌<◌, List, [], ◌∷◌, Bool, true, false, nat_eq, slice_index_or}
use Rattle.std.specs.List.{Contains, IsDistinct, AllByRecursion}
use Rattle.std.proofs.Common.{arith, subst, refl}
use Rattle.std.proofs.lemmas.List.Elements.{Contains-append_right}
use Rattle.std.proofs.lemmas.Bool.Decides.{nat_tests}
use Rattle.std.proofs.lemmas.Map.Keys.{IsDistinct-cons}
use Rattle.machine_parts.specs.Taken.{taken_from, taken}

differs : (j k : ℕ) → j < k → nat_eq j k ≡ false
differs j k h = grind (arith, nat_tests)

above : (j k : ℕ) (ms : List Bool) → j < k → AllByRecursion (λ y. nat_eq j y ≡ false) (taken_from k ms)
above j k [] h = tt
above j k (false ∷ ms) h = above j (k + 1) ms (omega arith)
above j k (true ∷ ms) h = (differs j k h, above j (k + 1) ms (omega arith))

distinct_from : (k : ℕ) (ms : List Bool) → IsDistinct nat_eq (taken_from k ms)
unfolding IsDistinct
distinct_from k [] = tt
distinct_from k (false ∷ ms) = distinct_from (k + 1) ms
distinct_from k (true ∷ ms) = IsDistinct-cons nat_eq k (taken_from (k + 1) ms) (above k (k + 1) ms (omega arith)) (distinct_from (k + 1) ms)

pub taken_distinct : (ms : List Bool) → IsDistinct nat_eq (taken ms)
taken_distinct ms = distinct_from 0 ms

-- the number of a mark that is set is taken
has_from : (k i : ℕ) (ms : List Bool) → slice_index_or ms i false ≡ true → Contains (taken_from k ms) (k + i)
has_from k i [] h = cc
has_from k zero (false ∷ ms) h = cc
has_from k zero (true ∷ ms) h =
    let e : k ≡ k + 0 = omega arith in
    subst (λ n. Contains (k ∷ taken_from (k + 1) ms) n) e (0, omega arith, refl)
has_from k (suc i) (false ∷ ms) h =
    let e : k + 1 + i ≡ k + suc i = omega arith in
    subst (λ n. Contains (taken_from (k + 1) ms) n) e (has_from (k + 1) i ms h)
has_from k (suc i) (true ∷ ms) h =
    let e : k + 1 + i ≡ k + suc i = omega arith in
    Contains-append_right (k ∷ []) (taken_from (k + 1) ms) (k + suc i) (subst (λ n. Contains (taken_from (k + 1) ms) n) e (has_from (k + 1) i ms h))

pub taken_has : (ms : List Bool) (n : ℕ) → slice_index_or ms n false ≡ true → Contains (taken ms) n
taken_has ms n h = let e : 0 + n ≡ n = omega arith in subst (λ i. Contains (taken ms) i) e (has_from 0 n ms h)
