-- The lines of a report.
use Rattle.std.specs.Prelude.{ℕ, ◌-◌, ◌<◌, ◌^◌, List, [], ◌∷◌, ◌++◌, codes, decimal, length, map, flat_map, sum, slice_get, unwrap_or, if◌then◌else◌, Option, None, Some}
use Rattle.std.specs.List.{range_with_len}
use Rattle.test_suite.specs.declared.suite.Suite.{Suite}
use Rattle.kill_matrix.specs.Score.{Letters, letter_of, killed_of}
use Rattle.kill_matrix.specs.Verdict.{byte_of}
use Rattle.exec_core.specs.declared.result.Work.{Work}
use Rattle.exec_core.specs.declared.result.Split.{Split}
use Rattle.line_parts.specs.Parts.{spaced}

-- what f gives for the numbers 0, 1, .., n - 1, one after another
abbrev pub each_below : (ℕ → List ℕ) → ℕ → List ℕ
each_below f n = flat_map f (range_with_len 0 n)

-- `mutant` and the names of the tests
abbrev pub head_line : Suite → List ℕ
head_line suite = codes "mutant" ++ flat_map (λ test. 44 ∷ test.name) suite.tests ++ 10 ∷ []

-- the number of a mutant and its letter on each test
abbrev pub mutant_line : Letters → ℕ → List ℕ
mutant_line grid m = decimal m ++ each_below (λ t. 44 ∷ byte_of (letter_of grid m t) ∷ []) (length grid.tests) ++ 10 ∷ []

-- `score`, the number of killed mutants and the number of mutants, the original not counted
abbrev pub score_line : Letters → List ℕ
score_line grid = codes "score," ++ decimal (killed_of grid) ++ 44 ∷ decimal (grid.mutants - 1) ++ 10 ∷ []

-- the lines of the letters and the score
abbrev pub score_text : Suite → Letters → List ℕ
score_text suite grid = head_line suite ++ each_below (mutant_line grid) grid.mutants ++ score_line grid

-- the four numbers of work, each after a comma, and the end of the line
abbrev pub work_fields : Work → List ℕ
work_fields w = 44 ∷ decimal w.steps ++ 44 ∷ decimal w.alone ++ 44 ∷ decimal w.tries ++ 44 ∷ decimal w.executions ++ 10 ∷ []

abbrev pub name_at : Suite → ℕ → List ℕ
name_at suite t = unwrap_or (slice_get (map (λ test. test.name) suite.tests) t) []

abbrev pub no_work : Work
no_work = record { steps = 0; alone = 0; tries = 0; executions = 0 }

-- `work`, the name of a test and its four numbers
abbrev pub work_line : Suite → List Work → ℕ → List ℕ
work_line suite works t = codes "work," ++ name_at suite t ++ work_fields (unwrap_or (slice_get works t) no_work)

-- the sums over all tests
abbrev pub total_of : List Work → Work
total_of works = record {
  steps = sum (map (λ w. w.steps) works);
  alone = sum (map (λ w. w.alone) works);
  tries = sum (map (λ w. w.tries) works);
  executions = sum (map (λ w. w.executions) works);
}

-- each number fits 64 bits
pub record FitsWords (w : Work) : Type 0 where
  pub steps : w.steps < 2 ^ 64
  pub alone : w.alone < 2 ^ 64
  pub tries : w.tries < 2 ^ 64
  pub executions : w.executions < 2 ^ 64

-- `total` and the sums
abbrev pub total_line : List Work → List ℕ
total_line works = codes "total" ++ work_fields (total_of works)

-- the work lines of the tests and the total line
abbrev pub work_text : Suite → List Work → List ℕ
work_text suite works = each_below (work_line suite works) (length works) ++ total_line works

-- `split`, the name of a test, the step, and the least member of each part
abbrev pub split_line : List ℕ → Split → List ℕ
split_line name s = codes "split," ++ name ++ 44 ∷ decimal s.step ++ 44 ∷ spaced s.parts ++ 10 ∷ []

-- the lines of the splits of a test
abbrev pub split_lines : Suite → List (List Split) → ℕ → List ℕ
split_lines suite splits t = flat_map (split_line (name_at suite t)) (unwrap_or (slice_get splits t) [])

-- the split lines of all tests, where they are asked for
abbrev pub split_text : Suite → Option (List (List Split)) → List ℕ
split_text suite None = []
split_text suite (Some splits) = each_below (split_lines suite splits) (length splits)

abbrev pub report_text : Suite → Letters → List Work → Option (List (List Split)) → List ℕ
report_text suite grid works splits = score_text suite grid ++ work_text suite works ++ split_text suite splits

-- ---- the summary of a workload

-- `load` and the number of a workload
abbrev pub load_line : ℕ → List ℕ
load_line number = codes "load," ++ decimal number ++ 10 ∷ []

-- the number of a workload, and its report from the score on, without splits
abbrev pub summary_text : ℕ → Suite → Letters → List Work → List ℕ
summary_text number suite grid works = load_line number ++ score_line grid ++ work_text suite works
