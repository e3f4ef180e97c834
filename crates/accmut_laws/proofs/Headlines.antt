-- What `run` and `groups` have written, from how their plans ended.
use Rattle.std.proofs.Common.{◌≡◌, Bool, ℕ, zero, suc, ◌+◌, ◌<◌, List, [], ◌∷◌, length, map, Some, slice_get, unwrap_or, refl, sym, ap, subst, ◌∙◌, inl, inr}
use Rattle.std.specs.Prelude.{slice_index_or}
use Rattle.std.specs.List.{sum_by, sum}
use Rattle.std.specs.Option.{option_map}
use Rattle.std.proofs.lemmas.List.Sums.{sum-map, sum_by-cons}
use Rattle.std.proofs.lemmas.List.{length-map}
use Rattle.std.proofs.lemmas.Option.{slice_get-map}
use Rattle.am_base.specs.Files.{Files}
use Rattle.code_form.specs.declared.code.Code.{Code}
use Rattle.code_form.specs.declared.sign.PortSign.{PortSign}
use Rattle.code_form.specs.Variant.{Table, mutants_of}
use Rattle.traces.specs.Splits.{IsSplit}
use Rattle.traces.specs.Work.{splits}
use Rattle.traces.proofs.AllSplits.{split_is, split_there}
use Rattle.traces.proofs.Prefixes.{steps-CountsPrefixes}
use Rattle.machine_form.specs.Calls.{Answers}
use Rattle.machine_form.specs.Machine.{outcome_of}
use Rattle.machine_form.proofs.SameTests.{machine_same}
use Rattle.exec_core.specs.declared.result.Split.{Split}
use Rattle.exec_core.specs.declared.result.Work.{Work}
use Rattle.ir_tokens.specs.Bytes.{Text}
use Rattle.mutant_records.specs.declared.list.Made.{Made}
use Rattle.mutant_records.specs.Tables.{IsListOf}
use Rattle.mutant_records.specs.declared.list.MutantList.{MutantList}
use Rattle.test_suite.specs.declared.suite.Suite.{Suite}
use Rattle.test_suite.specs.declared.suite.Test.{Test}
use Rattle.kill_matrix.specs.Score.{Letters, letter_of}
use Rattle.kill_matrix.specs.Verdict.{IsVerdict}
use Rattle.kill_matrix.specs.declared.letter.Letter.{Letter}
use Rattle.kill_matrix.specs.declared.letter.Letter.TheVariants.{Same}
use Rattle.work_report.specs.Report.{total_of}
use Rattle.suite_analysis.specs.declared.show.Show.TheVariants.{Report}
use Rattle.suite_analysis.specs.Runs.{trial_on, expected_of, work_of, splits_of, AreVerdicts, AreLetters, works_of, lists_of, suite_steps, suite_asks, IsReport}
use Rattle.command_plan.specs.Ends.{Ends, Text as Whole}
use Rattle.command_plan.specs.Plan.{Counts, Plan, Reads}
use Rattle.command_files.specs.declared.module.Loaded.{Loaded}
use Rattle.command_files.specs.Modules as module_file
use Rattle.command_files.specs.Mutants as mutants_file
use Rattle.command_files.specs.Tests as tests_file
use Rattle.commands.specs.Alone.{counts_of}
use Rattle.commands.specs.Plans.{files_plan, mutants_plan, tests_plan}
use Rattle.commands.specs.Run.{IsReportRise}
use Rattle.commands.proofs.OneReport.{rise-one}
use Rattle.accmut_laws.specs.Headline.{ReportsSteps, ReportsSplits, IsHeadline}
use Rattle.accmut_laws.proofs.ClassText.{element_of_map, map_element}

-- ---- the files

-- what stands behind three files that were accepted
pub record Behind (files : Files) (Faulty : List ℕ → Type 0) (signs : List PortSign) (budget : ℕ) (name mutants tests : Text)
    (next : Loaded → List Made → Suite → Plan) (text : List ℕ) (counts : Counts) : Type 0 where
  pub m : Loaded
  pub all : List Made
  pub suite : Suite
  pub module_is : Reads files name (λ file. module_file.IsAccepted signs file m)
  pub mutants_are : Reads files mutants (λ file. mutants_file.AreMutants signs m file all)
  pub tests_are : Reads files tests (λ file. tests_file.AreTests m.code budget file suite)
  pub ends : Ends files Faulty (next m all suite) (Whole text counts)

module _ (files : Files) (Faulty : List ℕ → Type 0) (signs : List PortSign) (budget : ℕ) (name mutants tests : Text)
    (next : Loaded → List Made → Suite → Plan) (text : List ℕ) (counts : Counts) where
  behind_tests : (m : Loaded) (all : List Made) → Reads files name (λ file. module_file.IsAccepted signs file m)
      → Reads files mutants (λ file. mutants_file.AreMutants signs m file all) → Ends files Faulty (tests_plan budget m tests (next m all)) (Whole text counts)
      → Behind files Faulty signs budget name mutants tests next text counts
  behind_tests m all r s (inl h) = absurd h
  behind_tests m all r s (inr h) = record { m = m; all = all; suite = h.0; module_is = r; mutants_are = s; tests_are = h.1; ends = h.2 }

  behind_mutants : (m : Loaded) → Reads files name (λ file. module_file.IsAccepted signs file m)
      → Ends files Faulty (mutants_plan signs budget m mutants tests (next m)) (Whole text counts)
      → Behind files Faulty signs budget name mutants tests next text counts
  behind_mutants m r (inl h) = absurd h
  behind_mutants m r (inr h) = behind_tests m h.0 r h.1 h.2

  pub behind : Ends files Faulty (files_plan signs budget name mutants tests next) (Whole text counts)
      → Behind files Faulty signs budget name mutants tests next text counts
  behind (inl h) = absurd h
  behind (inr h) = behind_mutants h.0 h.1 h.2

-- ---- the report

read_or : (row : List Letter) (m : ℕ) → unwrap_or (slice_get row m) Same ≡ slice_index_or row m Same
read_or [] m = refl
read_or (letter ∷ row) zero = refl
read_or (letter ∷ row) (suc m) = read_or row m

summed_by : {X : Type 0} (f : X → Work) (xs : List X) → sum_by (λ (w : Work). w.steps) (map f xs) ≡ sum_by (λ x. (f x).steps) xs
summed_by f [] = refl
summed_by f (x ∷ xs) =
    sum_by-cons (λ (w : Work). w.steps) (f x) (map f xs) ∙ ap (λ n. (f x).steps + n) (summed_by f xs) ∙ sym (sum_by-cons (λ x. (f x).steps) x xs)

summed : {X : Type 0} (f : X → Work) (xs : List X) → sum (map (λ (w : Work). w.steps) (map f xs)) ≡ sum_by (λ x. (f x).steps) xs
summed f xs = sum-map (λ (w : Work). w.steps) (map f xs) ∙ summed_by f xs

module _ (code : Code) (table : Table) (answers : Answers) where
  row_at : (tests : List Test) (rows : List (List Letter)) → AreLetters code table answers tests rows → (t : ℕ) (test : Test) → slice_get tests t ≡ Some test
      → (row : List Letter) × (slice_get rows t ≡ Some row) × AreVerdicts (trial_on code table answers test) (expected_of code table answers test) row
  row_at [] rows h t test e = absurd (cc e)
  row_at (first ∷ tests) [] h t test e = absurd h
  row_at (first ∷ tests) (row ∷ rows) h zero test e =
      let same : first ≡ test = cc e in
      (row, refl, subst (λ test. AreVerdicts (trial_on code table answers test) (expected_of code table answers test) row) same h.0)
  row_at (first ∷ tests) (row ∷ rows) h (suc t) test e = row_at tests rows h.1 t test e

  pub as_many : (tests : List Test) (rows : List (List Letter)) → AreLetters code table answers tests rows → length rows ≡ length tests
  as_many [] [] h = refl
  as_many [] (row ∷ rows) h = absurd h
  as_many (test ∷ tests) [] h = absurd h
  as_many (test ∷ tests) (row ∷ rows) h = ap suc (as_many tests rows h.1)

  module _ (suite : Suite) (t : ℕ) (test : Test) (is : slice_get suite.tests t ≡ Some test) where
    pub verdict_at : (grid : Letters) → AreLetters code table answers suite.tests grid.tests → (m : ℕ) → m < mutants_of table
        → IsVerdict (outcome_of (trial_on code table answers test) m) (expected_of code table answers test) (letter_of grid m t)
    verdict_at grid h m l =
        let row = row_at suite.tests grid.tests h t test is in
        let letter : letter_of grid m t ≡ slice_index_or row.0 m Same = ap (λ o. unwrap_or (slice_get (unwrap_or o []) m) Same) row.1 ∙ read_or row.0 m in
        subst (IsVerdict (outcome_of (trial_on code table answers test) m) (expected_of code table answers test)) (sym letter) (row.2.each m l)

    pub steps_at : ReportsSteps code table answers test (works_of code table answers suite.tests) t
    steps_at = record {
      work = work_of (trial_on code table answers test);
      there = slice_get-map (λ test. work_of (trial_on code table answers test)) suite.tests t
          ∙ ap (option_map (λ test. work_of (trial_on code table answers test))) is;
      counts = steps-CountsPrefixes (trial_on code table answers test) (machine_same code table answers);
    }

    pub splits_at : ReportsSplits code table answers test (lists_of code table answers suite.tests) t
    splits_at =
        let T = trial_on code table answers test in
        let same = machine_same code table answers in
        let seen : ℕ × List ℕ → Split = (λ s. record { step = s.0; parts = s.1 }) in
        record {
          splits = splits_of T;
          there = slice_get-map (λ test. splits_of (trial_on code table answers test)) suite.tests t
              ∙ ap (option_map (λ test. splits_of (trial_on code table answers test))) is;
          exactly = λ s. (
            λ c. let found = element_of_map seen (splits T) s c in
                subst (λ (s : Split). IsSplit T (s.step, s.parts)) found.2 (split_is T same found.0 found.1),
            λ h. map_element seen (splits T) (s.step, s.parts) (split_there T same (s.step, s.parts) h),
          );
        }

  abbrev pub report_says : (suite : Suite) (with_splits : Bool) (text : List ℕ) → IsReport code table answers (Report with_splits) suite text
      → IsHeadline code table answers suite with_splits text
  report_says suite with_splits text h = record {
    grid = h.grid;
    works = works_of code table answers suite.tests;
    lists = lists_of code table answers suite.tests;
    text_is = h.is_text;
    mutants = h.mutants;
    rows = as_many suite.tests h.grid.tests h.letters;
    lines = length-map suite.tests (λ test. work_of (trial_on code table answers test));
    each = length-map suite.tests (λ test. splits_of (trial_on code table answers test));
    verdicts = λ t m test is l. verdict_at suite t test is h.grid h.letters m l;
    steps = λ t test is. steps_at suite t test is;
    splits = λ t test is. splits_at suite t test is;
  }

  pub suite_total : (suite : Suite) → suite_steps code table answers suite.tests ≡ (total_of (works_of code table answers suite.tests)).steps
  suite_total suite = sym (summed (λ test. work_of (trial_on code table answers test)) suite.tests)

pub steps_rise : (code : Code) (all : List Made) (answers : Answers) (suite : Suite) (list : MutantList) (counts : Counts) → IsListOf code all list
    → IsReportRise code all answers suite counts → counts.steps ≡ (total_of (works_of code list.variants answers suite.tests)).steps
steps_rise code all answers suite list counts is rise =
    let of_list = counts_of (suite_steps code list.variants answers suite.tests) (suite_asks code list.variants answers suite.tests) in
    ap (λ (c : Counts). c.steps) (rise-one code all answers suite counts of_list rise (list, is, refl)) ∙ suite_total code list.variants answers suite
