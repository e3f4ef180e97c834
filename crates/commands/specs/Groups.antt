-- The mutants that have made the same changes up to a step of a test.
use Rattle.std.specs.Prelude.{◌≡◌, ℕ, ◌≤◌, ◌<◌, nat_le, if◌then◌else◌, List, [], length}
use Rattle.std.specs.List.{Contains}
use Rattle.am_base.specs.declared.outcome.Ending.TheVariants.{Budget}
use Rattle.code_form.specs.declared.code.Code.{Code}
use Rattle.code_form.specs.Variant.{Table}
use Rattle.traces.specs.Together.{below, class_of}
use Rattle.traces.specs.Trace.{Trial, trace, within}
use Rattle.traces.specs.Work.{steps, asks}
use Rattle.machine_form.specs.declared.change.Change.{Change}
use Rattle.machine_form.specs.Calls.{Answers}
use Rattle.machine_form.specs.State.{State}
use Rattle.flat_analysis.specs.Ended.{AreEnded}
use Rattle.flat_analysis.specs.declared.ended.Ended.{Ended}
use Rattle.mutant_records.specs.Tables.{IsListOf}
use Rattle.mutant_records.specs.declared.list.Made.{Made}
use Rattle.mutant_records.specs.declared.list.MutantList.{MutantList}
use Rattle.test_suite.specs.declared.suite.Test.{Test}
use Rattle.command_texts.specs.Groups.{IsGroupsText}
use Rattle.command_plan.specs.Plan.{Counts}
use Rattle.commands.specs.Alone.{counts_of, trial_on}

-- all mutants as one class, before any change
abbrev pub unmoved_class : ℕ → Ended
unmoved_class mutants = record { outcome = record { ending = Budget; output = [] }; members = below mutants; length = 0 }

-- after how many changes runs are cut off, to show the groups at a step: at the step, and before any change where the budget ends them earlier
abbrev pub cut_at : ℕ → ℕ → ℕ
cut_at step budget = if nat_le step budget then step else 0

-- the trial of a test that is cut off so
abbrev pub cut_trial : Code → Table → Answers → Test → ℕ → Trial State Change
cut_trial code table answers test step = within (trial_on code table answers test) (cut_at step test.case.budget)

-- the text shows the classes of the mutants at a step of a test, where the mutants from 1 on have these replacements
abbrev pub AreGroups : Code → List Made → Answers → ℕ → Test → List ℕ → Type 0
AreGroups code all answers step test text =
    (list : MutantList) × IsListOf code all list
    × (classes : List Ended) × AreEnded (cut_trial code list.variants answers test step) classes × IsGroupsText step classes text

-- the steps of the runs that are cut off are metered, and each port is asked as often as they ask it
abbrev pub IsGroupsRise : Code → List Made → Answers → ℕ → Test → Counts → Type 0
IsGroupsRise code all answers step test counts =
    (list : MutantList) × IsListOf code all list
    × (counts ≡ counts_of (steps (cut_trial code list.variants answers test step)) (asks (cut_trial code list.variants answers test step)))

-- a class among these of which this is said has a mutant
pub record IsClassWith (classes : List Ended) (m : ℕ) (Is : Ended → Type 0) : Type 0 where
  pub class : Ended
  pub there : Contains classes class
  pub member : Contains class.members m
  pub is : Is class

-- The classes are those of the mutants at step n of a trial: a class of length n has the mutants that are together there with any of its members, and
-- every mutant whose trace has n changes is in one. The others have the mutants whose traces are shorter.
pub record AreClassesAt (T : Trial State Change) (n : ℕ) (classes : List Ended) : Type 0 where
  pub most : (e : Ended) → Contains classes e → e.length ≤ n
  pub whole : (e : Ended) → Contains classes e → e.length ≡ n → (m : ℕ) → Contains e.members m → e.members ≡ class_of T m n
  pub reached : (m : ℕ) → m < T.mutants → n ≤ length (trace T m) → IsClassWith classes m (λ e. e.length ≡ n)
  pub short : (m : ℕ) → m < T.mutants → length (trace T m) < n → IsClassWith classes m (λ e. e.length < n)
