-- The smaller suite: a greedy pass over the tests, from the last to the first.
--     needs grid t later m       test t kills mutant m, and no test before t and none of these later ones does
--     is_needed grid t later     some mutant needs t
--     with_needed                t before these later tests, if it is needed
--     chosen_among grid tests    the tests chosen in a pass from the last of these to the first
--     chosen_tests grid          the tests chosen among all
--     KillsLikeAll               the chosen tests together kill what all tests kill
--     IsKilledByOneAlone         some mutant is killed by the test t and by no other chosen one
--
-- By hand, for four tests of three mutants: test 1 kills mutant 1, test 2 kills 2 and 3, test 3 kills 1, and test 0 none. From the last: 3 kills only
-- mutant 1, which test 1 before it kills. 2 is needed, for mutant 2. 1 is needed, for mutant 1, which 2 doesn't kill. 0 kills none. So 1 and 2 are chosen.
use Rattle.std.specs.Prelude.{◌≡◌, ℕ, ◌<◌, Bool, true, ◌&&◌, not, if◌then◌else◌, List, [], ◌∷◌, length}
use Rattle.std.specs.List.{list_any, range_with_len, Contains}
use Rattle.kill_matrix.specs.Score.{Letters}
use Rattle.suite_reduce.specs.Kills.{is_killed_by, is_killed_by_some, first_tests}

module _ (grid : Letters) where
  abbrev pub needs : ℕ → List ℕ → ℕ → Bool
  needs t later m = is_killed_by grid m t && (not (is_killed_by_some grid m (first_tests t)) && not (is_killed_by_some grid m later))

  unfoldable pub is_needed : ℕ → List ℕ → Bool
  is_needed t later = list_any (needs t later) (range_with_len 0 grid.mutants)

  abbrev pub with_needed : ℕ → List ℕ → List ℕ
  with_needed t later = if is_needed t later then t ∷ later else later

  abbrev pub chosen_among : List ℕ → List ℕ
  chosen_among [] = []
  chosen_among (t ∷ tests) = with_needed t (chosen_among tests)

  unfoldable pub chosen_tests : List ℕ
  chosen_tests = chosen_among (first_tests (length grid.tests))

  abbrev pub KillsLikeAll : List ℕ → Type 0
  KillsLikeAll chosen = (m : ℕ) → m < grid.mutants → is_killed_by_some grid m chosen ≡ is_killed_by_some grid m (first_tests (length grid.tests))

  pub record IsKilledByOneAlone (chosen : List ℕ) (t : ℕ) : Type 0 where
    pub mutant : ℕ
    pub is_mutant : mutant < grid.mutants
    pub killed : is_killed_by grid mutant t ≡ true
    pub alone : (k : ℕ) → Contains chosen k → is_killed_by grid mutant k ≡ true → k ≡ t
