-- What `run` and `groups` have written, in the words of the headline.
--     IsHeadline     the text is a report: each letter is the verdict on the mutant's run alone, the steps of each test are the number of the
--                    different nonempty prefixes of the traces, and the splits are the classes that divide
--     ReportsRun     the same of the files that are named and of what was written, and the meter rose by the sum of the steps
--     ShowsGroups    the text is that of the classes at the step of the test
use Rattle.std.specs.Prelude.{◌≡◌, ◌↔◌, ℕ, ◌+◌, ◌<◌, Bool, if◌then◌else◌, List, length, slice_get, Some, None}
use Rattle.std.specs.List.{Contains}
use Rattle.am_base.specs.Text.{appended}
use Rattle.code_form.specs.declared.code.Code.{Code}
use Rattle.code_form.specs.Variant.{Table, mutants_of}
use Rattle.ports.specs.Asks.{answers_in}
use Rattle.traces.specs.Splits.{IsSplit}
use Rattle.traces.specs.Together.{CountsPrefixes}
use Rattle.machine_form.specs.Calls.{Answers}
use Rattle.machine_form.specs.Machine.{outcome_of}
use Rattle.exec_core.specs.declared.result.Split.{Split}
use Rattle.exec_core.specs.declared.result.Work.{Work}
use Rattle.mutant_records.specs.declared.list.MutantList.{MutantList}
use Rattle.test_suite.specs.declared.suite.Suite.{Suite}
use Rattle.test_suite.specs.declared.suite.Test.{Test}
use Rattle.kill_matrix.specs.Score.{Letters, letter_of}
use Rattle.kill_matrix.specs.Verdict.{IsVerdict}
use Rattle.work_report.specs.Report.{report_text, total_of}
use Rattle.suite_analysis.specs.Runs.{trial_on, expected_of}
use Rattle.command_words.specs.Words.{Text}
use Rattle.command_words.specs.declared.command.Files.{Files}
use Rattle.command_files.specs.declared.module.Loaded.{Loaded}
use Rattle.commands.specs.Alone.{test_numbered}
use Rattle.commands.specs.Files.{AreRead}
use Rattle.accmut_app.specs.Call.{Devices}
use Rattle.accmut_laws.specs.Classes.{shown_at}

module _ (code : Code) (table : Table) (answers : Answers) (test : Test) where
  -- the number of steps that is reported of a test
  pub record ReportsSteps (works : List Work) (t : ℕ) : Type 0 where
    pub work : Work
    pub there : slice_get works t ≡ Some work
    pub counts : CountsPrefixes (trial_on code table answers test) work.steps

  -- the splits that are reported of a test
  pub record ReportsSplits (lists : List (List Split)) (t : ℕ) : Type 0 where
    pub splits : List Split
    pub there : slice_get lists t ≡ Some splits
    pub exactly : (s : Split) → Contains splits s ↔ IsSplit (trial_on code table answers test) (s.step, s.parts)

pub record IsHeadline (code : Code) (table : Table) (answers : Answers) (suite : Suite) (with_splits : Bool) (text : List ℕ) : Type 0 where
  pub grid : Letters
  pub works : List Work
  pub lists : List (List Split)
  pub text_is : text ≡ report_text suite grid works (if with_splits then Some lists else None)
  -- one row for each mutant, and a letter, a line of work and a list of splits for each test
  pub mutants : grid.mutants ≡ mutants_of table
  pub rows : length grid.tests ≡ length suite.tests
  pub lines : length works ≡ length suite.tests
  pub each : length lists ≡ length suite.tests
  -- each letter is the verdict on the run of the mutant by itself
  pub verdicts : (t m : ℕ) (test : Test) → slice_get suite.tests t ≡ Some test → m < mutants_of table
      → IsVerdict (outcome_of (trial_on code table answers test) m) (expected_of code table answers test) (letter_of grid m t)
  -- the steps are as many as the different nonempty prefixes
  pub steps : (t : ℕ) (test : Test) → slice_get suite.tests t ≡ Some test → ReportsSteps code table answers test works t
  -- the splits are the classes whose members go on by different changes
  pub splits : (t : ℕ) (test : Test) → slice_get suite.tests t ≡ Some test → ReportsSplits code table answers test lists t

pub record ReportsRun (before after : Devices) (names : Files Text) (budget : ℕ) (with_splits : Bool) : Type 0 where
  pub m : Loaded
  pub list : MutantList
  pub suite : Suite
  pub read : AreRead before.files before.ports.signs budget names.module names.mutants names.tests m list suite
  pub text : List ℕ
  pub written : after.written ≡ appended before.written text
  pub says : IsHeadline m.code list.variants (answers_in before.ports.answers) suite with_splits text
  pub metered : after.steps ≡ before.steps + (total_of says.works).steps

pub record ShowsGroups (before after : Devices) (names : Files Text) (budget t step : ℕ) : Type 0 where
  pub m : Loaded
  pub list : MutantList
  pub suite : Suite
  pub read : AreRead before.files before.ports.signs budget names.module names.mutants names.tests m list suite
  pub test : Test
  pub wanted : test_numbered suite.tests t ≡ Some test
  pub written : after.written ≡ appended before.written (shown_at (trial_on m.code list.variants (answers_in before.ports.answers) test) step)
