-- The report of a run: what each test of a suite says of each mutant, and what it took.
--     trial_on       all mutants of a table on a test
--     expected_of    what a test asks for: the outcome of its record, or that of mutant 0's run alone
--     AreVerdicts    one letter for each mutant: the verdict on the outcome of its run alone, against an outcome
--     AreLetters     these verdicts on a test, for each test, one by one
--     work_of        the four numbers of work
--     splits_of      where executions divide: the step, and the least member of each part
--     works_of, lists_of, the same for each test
--     suite_steps    the sum of the steps, and suite_asks p that of the asks of port p
--     IsReport       the text shows these letters, this work and these splits, as far as they are to be shown
use Rattle.std.specs.Prelude.{◌≡◌, ℕ, ◌<◌, List, [], ◌∷◌, length, map, slice_index_or, unwrap_or}
use Rattle.std.specs.List.{sum_by}
use Rattle.am_base.specs.declared.outcome.Outcome.{Outcome}
use Rattle.code_form.specs.declared.code.Code.{Code}
use Rattle.code_form.specs.Variant.{Table, mutants_of}
use Rattle.traces.specs.Trace.{Trial}
use Rattle.traces.specs.Work.{steps, alone, tries, executions, splits, asks}
use Rattle.machine_form.specs.declared.change.Change.{Change}
use Rattle.machine_form.specs.State.{State}
use Rattle.machine_form.specs.Calls.{Answers}
use Rattle.machine_form.specs.Machine.{case_trial, outcome_of}
use Rattle.exec_core.specs.declared.result.Work.{Work}
use Rattle.exec_core.specs.declared.result.Split.{Split}
use Rattle.test_suite.specs.declared.suite.Suite.{Suite}
use Rattle.test_suite.specs.declared.suite.Test.{Test}
use Rattle.kill_matrix.specs.declared.letter.Letter.{Letter}
use Rattle.kill_matrix.specs.declared.letter.Letter.TheVariants.{Same}
use Rattle.kill_matrix.specs.Verdict.{IsVerdict}
use Rattle.kill_matrix.specs.Score.{Letters}
use Rattle.suite_analysis.specs.Shown.{IsShown}
use Rattle.suite_analysis.specs.declared.show.Show.{Show}

module _ (T : Trial State Change) where
  pub record AreVerdicts (expected : Outcome) (letters : List Letter) : Type 0 where
    pub count : length letters ≡ T.mutants
    pub each : (m : ℕ) → m < T.mutants → IsVerdict (outcome_of T m) expected (slice_index_or letters m Same)

  abbrev pub work_of : Work
  work_of = record { steps = steps T; alone = alone T; tries = tries T; executions = executions T }

  abbrev pub splits_of : List Split
  splits_of = map (λ s. record { step = s.0; parts = s.1 }) (splits T)

module _ (code : Code) (table : Table) (answers : Answers) where
  abbrev pub trial_on : Test → Trial State Change
  trial_on test = case_trial code table answers test.case

  abbrev pub expected_of : Test → Outcome
  expected_of test = unwrap_or test.expected (outcome_of (trial_on test) 0)

  abbrev pub AreLetters : List Test → List (List Letter) → Type 0
  AreLetters [] [] = Unit {0}
  AreLetters [] (letters ∷ rows) = ⊥
  AreLetters (test ∷ tests) [] = ⊥
  AreLetters (test ∷ tests) (letters ∷ rows) = AreVerdicts (trial_on test) (expected_of test) letters × AreLetters tests rows

  abbrev pub works_of : List Test → List Work
  works_of tests = map (λ test. work_of (trial_on test)) tests

  abbrev pub lists_of : List Test → List (List Split)
  lists_of tests = map (λ test. splits_of (trial_on test)) tests

  abbrev pub suite_steps : List Test → ℕ
  suite_steps tests = sum_by (λ test. steps (trial_on test)) tests

  abbrev pub suite_asks : List Test → ℕ → ℕ
  suite_asks tests p = sum_by (λ test. asks (trial_on test) p) tests

  pub record IsReport (show : Show) (suite : Suite) (text : List ℕ) : Type 0 where
    pub grid : Letters
    pub mutants : grid.mutants ≡ mutants_of table
    pub letters : AreLetters suite.tests grid.tests
    pub is_text : IsShown show suite grid (works_of suite.tests) (lists_of suite.tests) text
