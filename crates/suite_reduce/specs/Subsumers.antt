-- Mutants that subsume others.
--     Subsumes grid a b             some test kills a, every test that kills a kills b, and the two differ
--     IsLeastSubsumer grid b        this is the least mutant that subsumes b; none where no mutant does
--     AreLeastSubsumers grid list   for each mutant from 0, its least subsumer
--
-- By hand, for three mutants of which mutant 1 is killed by the tests 1 and 3, and 2 and 3 by test 2: no other mutant is killed by some of the tests 1
-- and 3 alone, so none subsumes 1; 3 subsumes 2, and 2 subsumes 3.
use Rattle.std.specs.Prelude.{◌≡◌, ◌≢◌, ℕ, ◌<◌, true, List, length, Option, None, Some, slice_index_or}
use Rattle.kill_matrix.specs.Score.{Letters}
use Rattle.suite_reduce.specs.Kills.{is_killed_by}

module _ (grid : Letters) where
  abbrev pub IsWithin : ℕ → ℕ → Type 0
  IsWithin a b = (t : ℕ) → is_killed_by grid a t ≡ true → is_killed_by grid b t ≡ true

  pub record IsKilled (a : ℕ) : Type 0 where
    pub test : ℕ
    pub kills : is_killed_by grid a test ≡ true

  pub record Subsumes (a b : ℕ) : Type 0 where
    pub other : a ≢ b
    pub killed : IsKilled a
    pub within : IsWithin a b

  abbrev pub IsLeastSubsumer : ℕ → Option ℕ → Type 0
  IsLeastSubsumer b None = (a : ℕ) → ¬ Subsumes a b
  IsLeastSubsumer b (Some a) = Subsumes a b × ((k : ℕ) → k < a → ¬ Subsumes k b)

  pub record AreLeastSubsumers (list : List (Option ℕ)) : Type 0 where
    pub count : length list ≡ grid.mutants
    pub least : (b : ℕ) → b < length list → IsLeastSubsumer b (slice_index_or list b None)
