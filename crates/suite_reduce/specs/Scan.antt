-- Where the scan for subsumers stands.
--     AreMinimal grid minimal b   killed mutants before b, rising, that stand for all killed ones before b: for each of those one of them is no greater
--                                 and is killed by none but tests that kill it
use Rattle.std.specs.Prelude.{◌≡◌, ℕ, ◌<◌, ◌≤◌, List, Option, None, length, slice_index_or}
use Rattle.std.specs.List.{All, AllPairs, Contains}
use Rattle.kill_matrix.specs.Score.{Letters}
use Rattle.suite_reduce.specs.Subsumers.{IsWithin, IsKilled, IsLeastSubsumer}

module _ (grid : Letters) where
  pub record StandsFor (minimal : List ℕ) (a : ℕ) : Type 0 where
    pub mutant : ℕ
    pub listed : Contains minimal mutant
    pub least : mutant ≤ a
    pub within : IsWithin grid mutant a

  pub record AreMinimal (minimal : List ℕ) (b : ℕ) : Type 0 where
    pub rising : AllPairs (λ x y. x < y) minimal
    pub before : All (λ a. a < b) minimal
    pub killed : All (IsKilled grid) minimal
    pub complete : (a : ℕ) → a < b → IsKilled grid a → StandsFor minimal a

  pub record IsScan (minimal : List ℕ) (b : ℕ) (found : List (Option ℕ)) : Type 0 where
    pub minimal_are : AreMinimal minimal b
    pub count : length found ≡ b
    pub least : (k : ℕ) → k < b → IsLeastSubsumer grid k (slice_index_or found k None)
