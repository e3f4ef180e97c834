-- What is read of a state doesn't depend on its memory, and a change makes the same of all but the memory.
use Rattle.std.proofs.Common.{◌≡◌, ℕ, List, [], ◌∷◌, Option, refl, ap, ◌∙◌}
use Rattle.am_base.specs.declared.outcome.Ending.{Ending}
use Rattle.code_form.specs.declared.code.Code.{Code}
use Rattle.code_form.specs.declared.instr.Operand.{Operand}
use Rattle.code_form.specs.declared.instr.Operand.TheVariants.{Reg, Word}
use Rattle.machine_form.specs.declared.change.Change.{Change}
use Rattle.machine_form.specs.declared.change.Control.{Control}
use Rattle.machine_form.specs.declared.change.Control.TheVariants.{Next, Jump, Enter, Leave, End}
use Rattle.machine_form.specs.declared.frame.Frame.{Frame}
use Rattle.machine_form.specs.State.{State, with_bytes}
use Rattle.machine_form.specs.Straight.{value_of}
use Rattle.machine_form.specs.After.{after_change, frame_after, frame_of_caller, callers_after, ending_after}
use Rattle.bare_state.specs.Room.{with_memory}

pub value_with : (s : State) (bytes : List ℕ) (a : Operand) → value_of (with_memory s bytes) a ≡ value_of s a
value_with s bytes (Reg r) = refl
value_with s bytes (Word word) = refl

module _ (code : Code) (s : State) (bytes : List ℕ) (ws : List (ℕ × ℕ)) where
  caller_with : (fs : List Frame) → frame_of_caller (with_memory s bytes) ws fs ≡ frame_of_caller s ws fs
  caller_with [] = refl
  caller_with (f ∷ fs) = refl

  frame_with : (k : Control) → frame_after code (with_memory s bytes) ws k ≡ frame_after code s ws k
  frame_with Next = refl
  frame_with (Jump b) = refl
  frame_with (Enter f) = refl
  frame_with Leave = caller_with s.callers
  frame_with (End ending) = refl

callers_with : (s : State) (bytes : List ℕ) (k : Control) → callers_after (with_memory s bytes) k ≡ callers_after s k
callers_with s bytes Next = refl
callers_with s bytes (Jump b) = refl
callers_with s bytes (Enter f) = refl
callers_with s bytes Leave = refl
callers_with s bytes (End ending) = refl

ending_with : (s : State) (bytes : List ℕ) (k : Control) → ending_after (with_memory s bytes) k ≡ ending_after s k
ending_with s bytes Next = refl
ending_with s bytes (Jump b) = refl
ending_with s bytes (Enter f) = refl
ending_with s bytes Leave = refl
ending_with s bytes (End ending) = refl

pub after_with : (code : Code) (s : State) (bytes : List ℕ) (c : Change)
    → after_change code (with_memory s bytes) c ≡ with_memory (after_change code s c) (with_bytes bytes c.bytes)
after_with code s bytes c =
    let all = with_memory (after_change code s c) (with_bytes bytes c.bytes) in
    let frame : Frame → State = λ f. record all {
      running = f;
      callers = callers_after (with_memory s bytes) c.control;
      ending = ending_after (with_memory s bytes) c.control;
    } in
    let callers : List Frame → State = λ fs. record all { callers = fs; ending = ending_after (with_memory s bytes) c.control } in
    let ending : Option Ending → State = λ e. record all { ending = e } in
    ap frame (frame_with code s bytes c.writes c.control) ∙ ap callers (callers_with s bytes c.control) ∙ ap ending (ending_with s bytes c.control)
