-- The state that a change makes of a state.
use Rattle.std.specs.Prelude.{ℕ, ◌+◌, suc, if◌then◌else◌, List, [], ◌∷◌, ◌++◌, Option, Some, None, replicate}
use Rattle.am_base.specs.declared.outcome.Ending.{Ending}
use Rattle.code_form.specs.declared.instr.Instr.{Instr}
use Rattle.code_form.specs.declared.instr.Instr.TheVariants.{Phi}
use Rattle.code_form.specs.declared.code.Code.{Code}
use Rattle.code_form.specs.Places.{function_at, result_at, begins_at, block_of, instrs_of}
use Rattle.machine_form.specs.declared.change.Change.{Change}
use Rattle.machine_form.specs.declared.change.Control.{Control}
use Rattle.machine_form.specs.declared.change.Control.TheVariants.{Next, Jump, Enter, Leave, End}
use Rattle.machine_form.specs.declared.frame.Frame.{Frame}
use Rattle.machine_form.specs.State.{State, with_writes, with_bytes}

-- the number of `phi` that the instructions begin with
abbrev pub phis_in : List Instr → ℕ
phis_in (Phi entries ∷ more) = suc (phis_in more)
phis_in _ = 0

-- the place at which block `b` of a place's function is entered: the first one behind its `phi`
abbrev pub entry_place : Code → ℕ → ℕ → ℕ
entry_place code at b = (block_of code at b).first + phis_in (instrs_of code (block_of code at b))

-- the frame with these writes, at a place
abbrev pub moved : Frame → List (ℕ × ℕ) → ℕ → Frame
moved f ws place = record f { registers = with_writes f.registers ws; place = place }

-- the frame of a call: at the function's first instruction, with no register set but by these writes
abbrev pub frame_of_call : Code → State → ℕ → List (ℕ × ℕ) → Frame
frame_of_call code s f ws = record {
  place = begins_at code f;
  registers = with_writes (replicate (function_at code f).registers None) ws;
  result = result_at code s.running.place;
  restores = s.top;
}

-- the nearest caller's frame with these writes, to which a return goes back
abbrev pub frame_of_caller : State → List (ℕ × ℕ) → List Frame → Frame
frame_of_caller s ws [] = s.running
frame_of_caller s ws (caller ∷ more) = moved caller ws caller.place

abbrev pub frame_after : Code → State → List (ℕ × ℕ) → Control → Frame
frame_after code s ws Next = moved s.running ws (s.running.place + 1)
frame_after code s ws (Jump b) = moved s.running ws (entry_place code s.running.place b)
frame_after code s ws (Enter f) = frame_of_call code s f ws
frame_after code s ws Leave = frame_of_caller s ws s.callers
frame_after code s ws (End ending) = s.running

abbrev pub rest_of : List Frame → List Frame
rest_of [] = []
rest_of (caller ∷ more) = more

-- the call stack below the running frame; a caller goes on behind its call
abbrev pub callers_after : State → Control → List Frame
callers_after s Next = s.callers
callers_after s (Jump b) = s.callers
callers_after s (Enter f) = moved s.running [] (s.running.place + 1) ∷ s.callers
callers_after s Leave = rest_of s.callers
callers_after s (End ending) = s.callers

abbrev pub ending_after : State → Control → Option Ending
ending_after s Next = s.ending
ending_after s (Jump b) = s.ending
ending_after s (Enter f) = s.ending
ending_after s Leave = s.ending
ending_after s (End ending) = Some ending

abbrev pub output_after : List ℕ → Option ℕ → List ℕ
output_after output None = output
output_after output (Some b) = output ++ b ∷ []

abbrev pub after_change : Code → State → Change → State
after_change code s c = record {
  running = frame_after code s c.writes c.control;
  callers = callers_after s c.control;
  bytes = with_bytes s.bytes c.bytes;
  top = c.top;
  output = output_after s.output c.put;
  input = s.input;
  position = s.position + (if c.took then 1 else 0);
  ending = ending_after s c.control;
}
