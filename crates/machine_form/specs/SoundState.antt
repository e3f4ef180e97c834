-- When a state fits a code: the invariant that every step of every machine keeps.
use Rattle.std.specs.Prelude.{◌≡◌, ℕ, ◌-◌, ◌<◌, ◌≤◌, false, List, [], ◌∷◌, length, Option, Some, slice_get, All}
use Rattle.am_base.specs.declared.limits.TheConstants.{MAX_FRAMES, MAX_INPUT_BYTES, MAX_LIVE_REGISTERS, MAX_OUTPUT_BYTES, MEMORY_BYTES}
use Rattle.am_base.specs.Word.{IsWord}
use Rattle.code_form.specs.declared.code.TyScalar.{TyScalar}
use Rattle.code_form.specs.declared.code.Func.{Func}
use Rattle.code_form.specs.declared.code.Code.{Code}
use Rattle.code_form.specs.Places.{instr_at, result_at, is_phi}
use Rattle.code_form.specs.Sound.{IsPlaceOf, GivesMaybe, width_of}
use Rattle.machine_form.specs.declared.frame.Frame.{Frame}
use Rattle.machine_form.specs.State.{State, register, frames_of, registers_in_use}

-- each register that is set has a word of its type
abbrev pub AreTyped : List TyScalar → List (Option ℕ) → Type 0
AreTyped types registers = (r x : ℕ) (t : TyScalar) → slice_get types r ≡ Some t → register registers r ≡ Some x → IsWord (width_of t) x

-- a frame of the code's function with this index: its place is one of the function's and no `phi`, and it has the function's registers
pub record IsFrameOf (code : Code) (number : ℕ) (f : Func) (frame : Frame) : Type 0 where
  pub is : slice_get code.funcs number ≡ Some f
  pub stands : IsPlaceOf f frame.place
  pub no_phi : is_phi (instr_at code frame.place) ≡ false
  pub registers : length frame.registers ≡ f.registers
  pub words : AreTyped f.types frame.registers

-- a return from a frame of `called` fits the frame that it goes back to, a frame of the function `into` just behind a call: the call has a
-- result register iff the called function has a result, of the result's type, and the restored stack top isn't below the caller's own
pub record ReturnsTo (code : Code) (called : Func) (result : Option ℕ) (restores : ℕ) (into : Func) (caller : Frame) : Type 0 where
  pub after : 0 < caller.place
  pub register : result ≡ result_at code (caller.place - 1)
  pub fits : GivesMaybe into.types result called.result
  pub restored : caller.restores ≤ restores

-- each frame returns to the next one in the list, the first of them from a frame of `called`, and the last restores no stack top below the opening one
abbrev pub AreSoundCallers : Code → Func → Option ℕ → ℕ → List Frame → Type 0
AreSoundCallers code called result restores [] = code.stack_base ≤ restores
AreSoundCallers code called result restores (caller ∷ more) =
    (number : ℕ) × (into : Func) × IsFrameOf code number into caller × ReturnsTo code called result restores into caller
    × AreSoundCallers code into caller.result caller.restores more

pub record IsSoundState (code : Code) (s : State) : Type 0 where
  pub number : ℕ
  pub function : Func
  pub running : IsFrameOf code number function s.running
  pub callers : AreSoundCallers code function s.running.result s.running.restores s.callers
  pub restores : s.running.restores ≤ s.top
  pub top : s.top ≤ MEMORY_BYTES
  pub memory : length s.bytes ≡ MEMORY_BYTES
  pub bytes : All (λ b. b < 256) s.bytes
  pub frames : frames_of s ≤ MAX_FRAMES
  pub registers : registers_in_use s ≤ MAX_LIVE_REGISTERS
  pub output : length s.output ≤ MAX_OUTPUT_BYTES
  pub input : length s.input ≤ MAX_INPUT_BYTES
  pub position : s.position ≤ length s.input
