-- When a run by itself can make a change.
use Rattle.std.specs.Prelude.{◌≡◌, ℕ, ◌+◌, ◌^◌, ◌<◌, false, [], length, None, All}
use Rattle.code_form.specs.declared.code.Code.{Code}
use Rattle.code_form.specs.Places.{function_at}
use Rattle.machine_form.specs.declared.change.Change.{Change}
use Rattle.machine_form.specs.declared.change.Control.{Control}
use Rattle.machine_form.specs.declared.change.Control.TheVariants.{Next, Jump, Enter, Leave, End}
use Rattle.machine_form.specs.State.{State}
use Rattle.lane_eval.specs.Operands.{CanGo}

-- no byte of memory changes, nothing is put out, and no input is used
pub record IsQuiet (c : Change) : Type 0 where
  pub bytes : c.bytes ≡ []
  pub put : c.put ≡ None
  pub took : c.took ≡ false

-- a call can be made: the function is defined and has a block
pub record CanEnter (code : Code) (s : State) (f : ℕ) : Type 0 where
  pub defined : f < length code.funcs
  pub block : 0 < length (function_at code f).blocks
  pub place : s.running.place + 1 < 2 ^ 32

-- the control of the change leads somewhere, and the bytes that it writes lie below the stack top
abbrev pub CanApply : Code → State → Change → Control → Type 0
CanApply code s c Next = (s.running.place + 1 < 2 ^ 32) × (s.position + 1 < 2 ^ 32) × All (λ b. b.0 < s.top) c.bytes
CanApply code s c (Jump b) = CanGo code s b × IsQuiet c
CanApply code s c (Enter f) = CanEnter code s f × IsQuiet c
CanApply code s c Leave = (0 < length s.callers) × IsQuiet c
CanApply code s c (End ending) = IsQuiet c
