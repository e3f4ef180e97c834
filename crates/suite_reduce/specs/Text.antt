-- The text of a smaller suite.
--     reduced_text   `reduced` and the names of the chosen tests; `kept`, how many they are and how many tests there are; the score; and for each killed
--                    mutant `subsumed`, its number and that of its least subsumer
--     IsReduced      this text of the tests that are chosen, with the least subsumers
use Rattle.std.specs.Prelude.{◌≡◌, ℕ, List, [], ◌∷◌, ◌++◌, codes, decimal, length, flat_map, if◌then◌else◌, Option, None, Some, slice_index_or}
use Rattle.test_suite.specs.declared.suite.Suite.{Suite}
use Rattle.kill_matrix.specs.Score.{Letters}
use Rattle.work_report.specs.Report.{each_below, name_at, score_line}
use Rattle.suite_reduce.specs.Kills.{is_killed_by_some, first_tests}
use Rattle.suite_reduce.specs.Choice.{chosen_tests}
use Rattle.suite_reduce.specs.Subsumers.{AreLeastSubsumers}

-- a number, and `-` for none
abbrev pub number_or_none : Option ℕ → List ℕ
number_or_none None = 45 ∷ []
number_or_none (Some n) = decimal n

-- the names of these tests, separated by one blank
abbrev pub names_at : Suite → List ℕ → List ℕ
names_at suite [] = []
names_at suite (t ∷ ts) = name_at suite t ++ flat_map (λ k. 32 ∷ name_at suite k) ts

module _ (grid : Letters) where
  abbrev pub kept_line : List ℕ → List ℕ
  kept_line chosen = codes "kept," ++ decimal (length chosen) ++ 44 ∷ decimal (length grid.tests) ++ 10 ∷ []

  -- of a killed mutant; mutant 0 is the original, which no test kills
  abbrev pub subsumed_line : List (Option ℕ) → ℕ → List ℕ
  subsumed_line least b =
      if is_killed_by_some grid b (first_tests (length grid.tests))
      then codes "subsumed," ++ decimal b ++ 44 ∷ number_or_none (slice_index_or least b None) ++ 10 ∷ [] else []

  abbrev pub subsumed_lines : List (Option ℕ) → List ℕ
  subsumed_lines least = each_below (subsumed_line least) grid.mutants

abbrev pub reduced_line : Suite → List ℕ → List ℕ
reduced_line suite chosen = codes "reduced," ++ names_at suite chosen ++ 10 ∷ []

abbrev pub reduced_text : Suite → Letters → List ℕ → List (Option ℕ) → List ℕ
reduced_text suite grid chosen least = reduced_line suite chosen ++ kept_line grid chosen ++ score_line grid ++ subsumed_lines grid least

pub record IsReduced (suite : Suite) (grid : Letters) (text : List ℕ) : Type 0 where
  pub least : List (Option ℕ)
  pub least_are : AreLeastSubsumers grid least
  pub is_text : text ≡ reduced_text suite grid (chosen_tests grid) least
