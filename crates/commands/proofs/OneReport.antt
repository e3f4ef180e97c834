-- The report of a suite is one text.
use Rattle.std.proofs.Common.{◌≡◌, ◌≢◌, ℕ, List, [], ◌∷◌, length, map, unwrap_or, slice_index_or, refl, sym, ap, subst, ◌∙◌, arith}
use Rattle.std.proofs.Math.Path.{fun_ext}
use Rattle.std.proofs.lemmas.List.{ext_get_or}
use Rattle.std.specs.List.{sum_by}
use Rattle.am_base.specs.declared.outcome.Ending.{Ending}
use Rattle.am_base.specs.declared.outcome.Ending.TheVariants.{Return as Returned, Exit, Trap as Trapped, Budget as UsedUp}
use Rattle.am_base.specs.declared.outcome.Outcome.{Outcome}
use Rattle.code_form.specs.declared.code.Code.{Code}
use Rattle.code_form.specs.Variant.{Table, mutants_of}
use Rattle.traces.specs.Trace.{Trial}
use Rattle.traces.specs.Work.{steps, asks}
use Rattle.machine_form.specs.declared.change.Change.{Change}
use Rattle.machine_form.specs.Calls.{Answers}
use Rattle.machine_form.specs.Machine.{outcome_of}
use Rattle.machine_form.specs.State.{State}
use Rattle.mutant_records.specs.Tables.{IsListOf}
use Rattle.mutant_records.specs.declared.list.Made.{Made}
use Rattle.mutant_records.specs.declared.list.MutantList.{MutantList}
use Rattle.test_suite.specs.declared.suite.Suite.{Suite}
use Rattle.test_suite.specs.declared.suite.Test.{Test}
use Rattle.kill_matrix.specs.Score.{Letters}
use Rattle.kill_matrix.specs.Verdict.{IsBudgetOrTrap, IsTrapped, IsVerdict}
use Rattle.kill_matrix.specs.declared.letter.Letter.{Letter}
use Rattle.kill_matrix.specs.declared.letter.Letter.TheVariants.{Same, Budget, Trap, Return, Output}
use Rattle.suite_analysis.specs.Shown.{IsShown}
use Rattle.suite_analysis.proofs.OneShown.{shown-one}
use Rattle.suite_analysis.specs.declared.show.Show.{Show}
use Rattle.suite_analysis.specs.Runs.{AreVerdicts, AreLetters, work_of, splits_of, works_of, lists_of, suite_steps, suite_asks, IsReport}
use Rattle.command_plan.specs.Plan.{Counts}
use Rattle.commands.specs.Alone.{counts_of, trial_on}
use Rattle.commands.specs.Run.{IsReportText, IsReportRise}
use Rattle.commands.proofs.OneText.{Alike, lists-alike, trials-one}

-- ---- letters

either : (e : Ending) → IsTrapped e → IsBudgetOrTrap e
either (Trapped trap) h = tt
either UsedUp h = tt
either (Returned word) h = absurd h
either (Exit word) h = absurd h

used_up : (e : Ending) → e ≡ UsedUp → IsBudgetOrTrap e
used_up e h = subst IsBudgetOrTrap (sym h) tt

not_used_up : (e : Ending) → e ≡ UsedUp → IsTrapped e → ⊥
not_used_up e h t = subst IsTrapped h t

letter-one : (got expected : Outcome) (letter other : Letter) → IsVerdict got expected letter → IsVerdict got expected other → letter ≡ other
letter-one got expected Same Same h k = refl
letter-one got expected Same Budget h k = absurd (k.0 h)
letter-one got expected Same Trap h k = absurd (k.0 h)
letter-one got expected Same Return h k = absurd (k.1 (ap (λ o. o.ending) h))
letter-one got expected Same Output h k = absurd (k.2 (ap (λ o. o.output) h))
letter-one got expected Budget Same h k = absurd (h.0 k)
letter-one got expected Budget Budget h k = refl
letter-one got expected Budget Trap h k = absurd (not_used_up got.ending h.1 k.1)
letter-one got expected Budget Return h k = absurd (k.0 (used_up got.ending h.1))
letter-one got expected Budget Output h k = absurd (k.0 (used_up got.ending h.1))
letter-one got expected Trap Same h k = absurd (h.0 k)
letter-one got expected Trap Budget h k = absurd (not_used_up got.ending k.1 h.1)
letter-one got expected Trap Trap h k = refl
letter-one got expected Trap Return h k = absurd (k.0 (either got.ending h.1))
letter-one got expected Trap Output h k = absurd (k.0 (either got.ending h.1))
letter-one got expected Return Same h k = absurd (h.1 (ap (λ o. o.ending) k))
letter-one got expected Return Budget h k = absurd (h.0 (used_up got.ending k.1))
letter-one got expected Return Trap h k = absurd (h.0 (either got.ending k.1))
letter-one got expected Return Return h k = refl
letter-one got expected Return Output h k = absurd (h.1 k.1)
letter-one got expected Output Same h k = absurd (h.2 (ap (λ o. o.output) k))
letter-one got expected Output Budget h k = absurd (h.0 (used_up got.ending k.1))
letter-one got expected Output Trap h k = absurd (h.0 (either got.ending k.1))
letter-one got expected Output Return h k = absurd (k.1 h.1)
letter-one got expected Output Output h k = refl

abbrev grid_by : ℕ → List (List Letter) → Letters
grid_by mutants tests = record { mutants = mutants; tests = tests }

row-one : (T : Trial State Change) (expected : Outcome) (letters others : List Letter) → AreVerdicts T expected letters → AreVerdicts T expected others
    → letters ≡ others
row-one T expected letters others h k =
    let n = h.count in
    ext_get_or Same letters others (h.count ∙ sym k.count)
    (λ m l. letter-one (outcome_of T m) expected (slice_index_or letters m Same) (slice_index_or others m Same) (h.each m (omega (arith, l, n))) (k.each m (omega (arith, l, n))))

module _ (code : Code) (answers : Answers) (t u : Table) (alike : Alike t u) where
  one : trial_on code t answers ≡ trial_on code u answers
  one = fun_ext (λ test. trials-one code answers t u test alike)

  rows-one : (tests : List Test) (rows others : List (List Letter)) → AreLetters code t answers tests rows → AreLetters code u answers tests others
      → rows ≡ others
  rows-one [] [] [] h k = refl
  rows-one [] [] (other ∷ others) h k = absurd k
  rows-one [] (row ∷ rows) others h k = absurd h
  rows-one (test ∷ tests) [] others h k = absurd h
  rows-one (test ∷ tests) (row ∷ rows) [] h k = absurd k
  rows-one (test ∷ tests) (row ∷ rows) (other ∷ others) h k =
      let T = trial_on code t answers test in
      let there = subst (λ (trial : Trial State Change). AreVerdicts trial (unwrap_or test.expected (outcome_of trial 0)) other)
      (sym (trials-one code answers t u test alike)) k.0 in
      let first : row ≡ other = row-one T (unwrap_or test.expected (outcome_of T 0)) row other h.0 there in
      let rest : rows ≡ others = rows-one tests rows others h.1 k.1 in
      ap (λ r. r ∷ rows) first ∙ ap (λ rs. other ∷ rs) rest

  grids-one : (suite : Suite) (grid other : Letters) → grid.mutants ≡ mutants_of t → other.mutants ≡ mutants_of u
      → AreLetters code t answers suite.tests grid.tests → AreLetters code u answers suite.tests other.tests → grid ≡ other
  grids-one suite grid other n k h g =
      let count : grid.mutants ≡ other.mutants = n ∙ ap length alike.chosen ∙ sym k in
      let rows : grid.tests ≡ other.tests = rows-one suite.tests grid.tests other.tests h g in
      ap (λ n. grid_by n grid.tests) count ∙ ap (λ rs. grid_by other.mutants rs) rows

  reports-one : (show : Show) (suite : Suite) (text other : List ℕ) → IsReport code t answers show suite text
      → IsReport code u answers show suite other → text ≡ other
  reports-one show suite text other h k =
      let grids = grids-one suite h.grid k.grid h.mutants k.mutants h.letters k.letters in
      let by : Letters → (Test → Trial State Change) → List ℕ → Type 0 =
      (λ grid trial text. IsShown show suite grid (map (λ test. work_of (trial test)) suite.tests)
      (map (λ test. splits_of (trial test)) suite.tests) text) in
      let moved : by k.grid (trial_on code u answers) text =
      subst (λ trial. by k.grid trial text) one (subst (λ grid. by grid (trial_on code t answers) text) grids h.is_text) in
      shown-one show suite k.grid _ _ text other moved k.is_text

  rises-one : (tests : List Test) → counts_of (suite_steps code t answers tests) (suite_asks code t answers tests)
      ≡ counts_of (suite_steps code u answers tests) (suite_asks code u answers tests)
  rises-one tests =
      ap (λ (trial : Test → Trial State Change). counts_of (sum_by (λ test. steps (trial test)) tests) (λ p. sum_by (λ test. asks (trial test) p) tests)) one

module _ (code : Code) (all : List Made) (answers : Answers) (suite : Suite) where
  pub report-one : (show : Show) (text other : List ℕ) → IsReportText code all answers show suite text
      → IsReportText code all answers show suite other → text ≡ other
  report-one show text other h k =
      reports-one code answers h.0.variants k.0.variants (lists-alike code all h.0 k.0 h.1 k.1) show suite text other h.2 k.2

  pub rise-one : (counts other : Counts) → IsReportRise code all answers suite counts → IsReportRise code all answers suite other → counts ≡ other
  rise-one counts other h k =
      h.2 ∙ rises-one code answers h.0.variants k.0.variants (lists-alike code all h.0 k.0 h.1 k.1) suite.tests ∙ sym k.2
