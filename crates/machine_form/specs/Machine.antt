-- These definitions as one of the machines over which traces are defined.
use Rattle.std.specs.Prelude.{ℕ, Bool, false, ◌==◌, ◌&&◌, nat_le, is_some, if◌then◌else◌, length, unwrap_or}
use Rattle.am_base.specs.declared.outcome.Ending.TheVariants.{Budget}
use Rattle.am_base.specs.declared.outcome.Outcome.{Outcome}
use Rattle.code_form.specs.declared.instr.Callee.{Callee}
use Rattle.code_form.specs.declared.instr.Callee.TheVariants.{Port}
use Rattle.code_form.specs.declared.instr.Instr.{Instr}
use Rattle.code_form.specs.declared.instr.Instr.TheVariants.{Call}
use Rattle.code_form.specs.declared.code.Code.{Code}
use Rattle.code_form.specs.declared.case.Case.{Case}
use Rattle.code_form.specs.Places.{result_at}
use Rattle.code_form.specs.Trial.{trial_of}
use Rattle.code_form.specs.Variant.{Table, replacements_at, instr_of}
use Rattle.traces.specs.Meanings.{Meanings}
use Rattle.traces.specs.Trace.{Trial, trace, state_after}
use Rattle.machine_form.specs.declared.change.Change.{Change}
use Rattle.machine_form.specs.State.{State}
use Rattle.machine_form.specs.Straight.{values_of}
use Rattle.machine_form.specs.Calls.{Answers}
use Rattle.machine_form.specs.Next.{next_of}
use Rattle.machine_form.specs.After.{after_change}
use Rattle.machine_form.specs.Start.{start_of}
use Rattle.machine_form.specs.Pages.{pages_of}
use Rattle.machine_form.specs.Same.{same_change}

-- the change of variant `v` at the place of a state
abbrev pub next_by : Code → Table → Answers → ℕ → State → Change
next_by code table answers v s = next_of code answers s (result_at code s.running.place) (instr_of code table s.running.place v)

-- whether a variant has a meaning at a place: 0 at each place, and the numbers that the table gives there
abbrev pub is_known : Table → ℕ → ℕ → Bool
is_known table at v = nat_le v (length (replacements_at table at))

abbrev pub is_port : ℕ → Callee → Bool
is_port p (Port q) = p == q
is_port p _ = false

-- the toll: how often an instruction asks port `p`. Once where it calls the port and each argument is set, else never
abbrev pub toll_of : ℕ → State → Instr → ℕ
toll_of p s (Call callee args) = if (is_port p callee && is_some (values_of s args)) then 1 else 0
toll_of p s _ = 0

abbrev pub machine_of : Code → Table → Answers → Meanings State Change
machine_of code table answers = record {
  place = λ s. s.running.place;
  ended = λ s. is_some s.ending;
  knows = is_known table;
  next = next_by code table answers;
  after = after_change code;
  weight = λ c. pages_of c.bytes;
  toll = λ p v s. toll_of p s (instr_of code table s.running.place v);
  same = same_change;
}

-- the trial of a case: the mutants of a table, each run on the case
abbrev pub case_trial : Code → Table → Answers → Case → Trial State Change
case_trial code table answers case = trial_of (machine_of code table answers) table (start_of code case) case.budget

-- the outcome of a run whose last state this is
abbrev pub outcome_at : State → Outcome
outcome_at s = record { ending = unwrap_or s.ending Budget; output = s.output }

-- the outcome of a mutant: that of the last state of its trace
abbrev pub outcome_of : Trial State Change → ℕ → Outcome
outcome_of trial m = outcome_at (state_after trial trial.start (trace trial m))
