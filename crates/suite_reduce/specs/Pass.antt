-- Where the pass of the choice stands.
--     AreFirstKillers   for each mutant the first test that kills it, or the number of tests
--     IsPass grid t     these tests were chosen among those from t on, from the last to the first, and those mutants are the ones that they kill
use Rattle.std.specs.Prelude.{◌≡◌, ℕ, ◌-◌, Bool, List, length, map, reverse}
use Rattle.std.specs.List.{position_or_len, range_with_len}
use Rattle.kill_matrix.specs.Score.{Letters}
use Rattle.suite_reduce.specs.Kills.{is_killed_by, is_killed_by_some, first_tests}
use Rattle.suite_reduce.specs.Choice.{chosen_among}

module _ (grid : Letters) where
  abbrev pub AreFirstKillers : List ℕ → Type 0
  AreFirstKillers firsts = firsts ≡ map (λ m. position_or_len (is_killed_by grid m) (first_tests (length grid.tests))) (range_with_len 0 grid.mutants)

  pub record IsPass (t : ℕ) (chosen : List ℕ) (covered : List Bool) : Type 0 where
    pub chosen_are : reverse chosen ≡ chosen_among grid (range_with_len t (length grid.tests - t))
    pub covered_are : covered ≡ map (λ m. is_killed_by_some grid m (reverse chosen)) (range_with_len 0 grid.mutants)
