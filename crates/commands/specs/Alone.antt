-- One mutant by itself on one test.
use Rattle.std.specs.Prelude.{◌≡◌, ℕ, zero, suc, nat_le, if◌then◌else◌, List, length, Option, Some, None, slice_get}
use Rattle.code_form.specs.declared.code.Code.{Code}
use Rattle.code_form.specs.declared.code.TyScalar.{TyScalar}
use Rattle.code_form.specs.Places.{function_at}
use Rattle.code_form.specs.Variant.{Table}
use Rattle.machine_form.specs.Calls.{Answers}
use Rattle.machine_form.specs.Machine.{outcome_of}
use Rattle.traces.specs.Trace.{trace}
use Rattle.plain_machine.specs.Tolls.{tolls_of}
use Rattle.mutant_records.specs.Lists.{last_mutant}
use Rattle.mutant_records.specs.Tables.{IsListOf}
use Rattle.mutant_records.specs.declared.list.Made.{Made}
use Rattle.mutant_records.specs.declared.list.MutantList.{MutantList}
use Rattle.test_suite.specs.declared.suite.Test.{Test}
use Rattle.command_texts.specs.Alone.{alone_text}
use Rattle.command_plan.specs.Plan.{Counts}
-- the trial of a test, where the mutants have the replacements of a table
pub use Rattle.suite_analysis.specs.Runs.{trial_on}

-- the steps on a meter and the asks of each port of a list
abbrev pub counts_of : ℕ → (ℕ → ℕ) → Counts
counts_of steps asks = record { steps = steps; asks = asks }

-- the type of the result of a test's function
abbrev pub result_type : Code → Test → Option TyScalar
result_type code test = (function_at code test.case.function).result

-- what the run of a mutant by itself on a test shows, as text
abbrev pub run_text : Code → Table → Answers → ℕ → Test → List ℕ
run_text code table answers m test =
    let T = trial_on code table answers test in
    alone_text m test.name (result_type code test) (outcome_of T m) (length (trace T m))

-- the text is that of the run of a mutant, where the mutants from 1 on have these replacements
abbrev pub IsRunText : Code → List Made → Answers → ℕ → Test → List ℕ → Type 0
IsRunText code all answers m test text = (list : MutantList) × IsListOf code all list × (text ≡ run_text code list.variants answers m test)

-- no step is metered, and each port is asked as often as the run calls it
abbrev pub IsRunRise : Code → List Made → Answers → ℕ → Test → Counts → Type 0
IsRunRise code all answers m test counts =
    (list : MutantList) × IsListOf code all list × (counts ≡ counts_of 0 (tolls_of (trial_on code list.variants answers test) m))

-- the mutant with a number, where there are these replacements
abbrev pub mutant_numbered : List Made → ℕ → Option ℕ
mutant_numbered all m = if nat_le m (last_mutant all) then Some m else None

-- the test with a number, from 1
abbrev pub test_numbered : List Test → ℕ → Option Test
test_numbered tests zero = None
test_numbered tests (suc t) = slice_get tests t
