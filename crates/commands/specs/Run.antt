-- All mutants of a list on all tests of a suite.
use Rattle.std.specs.Prelude.{◌≡◌, ℕ, List}
use Rattle.code_form.specs.declared.code.Code.{Code}
use Rattle.machine_form.specs.Calls.{Answers}
use Rattle.suite_analysis.specs.declared.show.Show.{Show}
use Rattle.suite_analysis.specs.Runs.{IsReport, suite_steps, suite_asks}
use Rattle.mutant_records.specs.Tables.{IsListOf}
use Rattle.mutant_records.specs.declared.list.Made.{Made}
use Rattle.mutant_records.specs.declared.list.MutantList.{MutantList}
use Rattle.test_suite.specs.declared.suite.Suite.{Suite}
use Rattle.command_plan.specs.Plan.{Counts}
use Rattle.commands.specs.Alone.{counts_of}

-- the text is what is shown of the report of a suite, where the mutants from 1 on have these replacements
abbrev pub IsReportText : Code → List Made → Answers → Show → Suite → List ℕ → Type 0
IsReportText code all answers show suite text =
    (list : MutantList) × IsListOf code all list × IsReport code list.variants answers show suite text

-- the steps of all tests are metered, and each port is asked as often as all tests ask it
abbrev pub IsReportRise : Code → List Made → Answers → Suite → Counts → Type 0
IsReportRise code all answers suite counts =
    (list : MutantList) × IsListOf code all list
    × (counts ≡ counts_of (suite_steps code list.variants answers suite.tests) (suite_asks code list.variants answers suite.tests))
