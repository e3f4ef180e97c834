-- Changes that variants of one place make in one state are equal exactly where the states after them are.
use Rattle.std.specs.Prelude.{◌≡◌, ℕ, None}
use Rattle.code_form.specs.declared.code.Code.{Code}
use Rattle.code_form.specs.Sound.{IsSound}
use Rattle.code_form.specs.Variant.{Table}
use Rattle.code_form.specs.Fit.{FitsTable}
use Rattle.machine_form.specs.State.{State}
use Rattle.machine_form.specs.Calls.{Answers}
use Rattle.machine_form.specs.Machine.{next_by}
use Rattle.machine_form.specs.After.{after_change}
use Rattle.machine_form.specs.SoundState.{IsSoundState}

-- two variants of the place of a sound state without an ending: where their changes lead to one state, they are equal
abbrev pub DeterminesChanges : Type 0
DeterminesChanges = (code : Code) (table : Table) (answers : Answers) (s : State) (v w : ℕ) → IsSound code → FitsTable code table → IsSoundState code s
    → s.ending ≡ None
    → after_change code s (next_by code table answers v s) ≡ after_change code s (next_by code table answers w s)
    → next_by code table answers v s ≡ next_by code table answers w s
