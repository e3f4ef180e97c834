-- The numbers that are taken are different.
use Rattle.std.specs.Prelude.{◌≡◌, ℕ, ◌+◌, ◌<◌, List, [], ◌∷◌, Bool, true, false, nat_eq}
use Rattle.std.specs.List.{IsDistinct, AllByRecursion}
use Rattle.std.proofs.Common.{arith}
use Rattle.std.proofs.lemmas.Bool.Decides.{nat_tests}
use Rattle.std.proofs.lemmas.Map.Keys.{IsDistinct-cons}
use Rattle.flat_machine.specs.Taken.{taken_from, taken}

differs : (j k : ℕ) → j < k → nat_eq j k ≡ false
differs j k h = grind (arith, nat_tests)

above : (j k : ℕ) (ms : List Bool) → j < k → AllByRecursion (λ y. nat_eq j y ≡ false) (taken_from k ms)
above j k [] h = tt
above j k (false ∷ ms) h = above j (k + 1) ms (omega arith)
above j k (true ∷ ms) h = (differs j k h, above j (k + 1) ms (omega arith))

distinct_from : (k : ℕ) (ms : List Bool) → IsDistinct nat_eq (taken_from k ms)
unfolding IsDistinct
distinct_from k [] = tt
distinct_from k (false ∷ ms) = distinct_from (k + 1) ms
distinct_from k (true ∷ ms) = IsDistinct-cons nat_eq k (taken_from (k + 1) ms) (above k (k + 1) ms (omega arith)) (distinct_from (k + 1) ms)

pub taken_distinct : (ms : List Bool) → IsDistinct nat_eq (taken ms)
taken_distinct ms = distinct_from 0 ms
