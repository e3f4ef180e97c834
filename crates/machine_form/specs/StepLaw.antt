-- Soundness of the first state, and that each step keeps it.
use Rattle.std.specs.Prelude.{ℕ, ◌<◌, All}
use Rattle.code_form.specs.declared.code.Code.{Code}
use Rattle.code_form.specs.declared.case.Case.{Case}
use Rattle.code_form.specs.Sound.{IsSound}
use Rattle.code_form.specs.Variant.{Table}
use Rattle.code_form.specs.Fit.{FitsTable, FitsCase}
use Rattle.machine_form.specs.State.{State}
use Rattle.machine_form.specs.Calls.{Answers}
use Rattle.machine_form.specs.Machine.{next_by}
use Rattle.machine_form.specs.After.{after_change}
use Rattle.machine_form.specs.Start.{opening_bytes, start_of}
use Rattle.machine_form.specs.SoundState.{IsSoundState}

-- each case of a sound code begins in a sound state
abbrev pub BeginsSound : Type 0
BeginsSound = (code : Code) (case : Case) → IsSound code → FitsCase code case → All (λ b. b < 256) (opening_bytes code) → IsSoundState code (start_of code case)

-- the change of each variant at the place of a sound state leads to a sound state, where the input consists of bytes
abbrev pub KeepsStates : Type 0
KeepsStates = (code : Code) (table : Table) (answers : Answers) (s : State) (v : ℕ) → IsSound code → FitsTable code table → IsSoundState code s
    → All (λ b. b < 256) s.input
    → IsSoundState code (after_change code s (next_by code table answers v s))
