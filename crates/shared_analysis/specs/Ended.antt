-- What the mutants of a case come to, run together.
--     trial_run   the trial of what a machine runs, on a case
--     IsEnded     the members are the mutants of one whole trace, rising, with the outcome that each has by itself, and the length of its trace
--     AreEnded    each mutant is in exactly one of these classes, and they stand in order of least member
--     IsClassOf   the class with this number has the mutant among its members
--     IsNumbered  an analysis with the number of each mutant's class
--     IsShown     the class with this number has the mutant, with the outcome that it has by itself and the length of its trace
--     AreShown    the numbers are those of the mutants' classes, one for each mutant
--     IsAnalysis  all that an analysis of a case says
use Rattle.std.specs.Prelude.{◌≡◌, ◌↔◌, ℕ, ◌<◌, List, length, map, Some, slice_get, slice_index}
use Rattle.std.specs.List.{All, Contains, flat_map}
use Rattle.std.specs.List.Sorted.{IsPermutation, IsStrictlyIncreasing, IsNonDecreasingBy}
use Rattle.code_form.specs.declared.case.Case.{Case}
use Rattle.code_form.specs.Trial.{trial_of}
use Rattle.code_form.specs.Variant.{Table}
use Rattle.traces.specs.Trace.{Trial, trace}
use Rattle.traces.specs.Together.{below}
use Rattle.traces.specs.Ends.{HasTraceOf}
use Rattle.traces.specs.Work.{steps, alone, tries, executions, splits}
use Rattle.machine_form.specs.declared.change.Change.{Change}
use Rattle.machine_form.specs.State.{State}
use Rattle.machine_form.specs.Calls.{Answers}
use Rattle.machine_form.specs.Start.{start_of}
use Rattle.machine_form.specs.Machine.{machine_of, outcome_of}
use Rattle.machine_parts.specs.Shown.{Run}
use Rattle.exec_core.specs.Engines.{split_seen}
use Rattle.shared_analysis.specs.declared.ended.Ended.{Ended}
use Rattle.shared_analysis.specs.declared.ended.Together.{Together}
use Rattle.shared_analysis.specs.declared.ended.TestResult.{TestResult}

-- the trial of what a machine runs, with these answers of the ports, on a case
abbrev pub trial_run : Run → Answers → Table → Case → Trial State Change
trial_run run answers table case = trial_of (machine_of run.code run.table answers) table (start_of run.code case) case.budget

pub record IsClassOf (classes : List Ended) (m number : ℕ) : Type 0 where
  pub class : Ended
  pub is : slice_get classes number ≡ Some class
  pub member : Contains class.members m

pub record IsNumbered (t : Together) (mutants : ℕ) (a : TestResult) : Type 0 where
  pub classes : a.classes ≡ t.classes
  pub count : length a.class_of ≡ mutants
  pub each : (m : ℕ) → m < mutants → IsClassOf t.classes m (slice_index a.class_of m)
  pub splits : a.splits ≡ t.splits
  pub work : a.work ≡ t.work
  pub peak : a.peak ≡ t.peak

module _ (T : Trial State Change) where
  pub record IsEnded (e : Ended) : Type 0 where
    pub some : 0 < length e.members
    pub rising : IsStrictlyIncreasing e.members
    pub members : (m k : ℕ) → Contains e.members m → Contains e.members k ↔ HasTraceOf T m k
    pub steps : (m : ℕ) → Contains e.members m → e.length ≡ length (trace T m)
    pub outcome : (m : ℕ) → Contains e.members m → e.outcome ≡ outcome_of T m

  pub record AreEnded (classes : List Ended) : Type 0 where
    pub once : IsPermutation (below T.mutants) (flat_map (λ e. e.members) classes)
    pub each : All IsEnded classes
    pub rising : IsNonDecreasingBy (λ e. slice_index e.members 0) classes

  pub record IsShown (classes : List Ended) (m number : ℕ) : Type 0 where
    pub class : Ended
    pub is : slice_get classes number ≡ Some class
    pub member : Contains class.members m
    pub outcome : class.outcome ≡ outcome_of T m
    pub steps : class.length ≡ length (trace T m)

  pub record AreShown (classes : List Ended) (numbers : List ℕ) : Type 0 where
    pub count : length numbers ≡ T.mutants
    pub each : (m : ℕ) → m < T.mutants → IsShown classes m (slice_index numbers m)

  pub record IsAnalysis (a : TestResult) : Type 0 where
    pub classes : AreEnded a.classes
    pub shown : AreShown a.classes a.class_of
    pub steps : a.work.steps ≡ steps T
    pub alone : a.work.alone ≡ alone T
    pub tries : a.work.tries ≡ tries T
    pub executions : a.work.executions ≡ executions T
    pub splits : map split_seen a.splits ≡ splits T
