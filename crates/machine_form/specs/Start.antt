-- The state in which the run of a case begins.
use Rattle.std.specs.Prelude.{ℕ, ◌-◌, List, [], ◌++◌, length, None, replicate}
use Rattle.am_base.specs.declared.limits.TheConstants.{MEMORY_BYTES}
use Rattle.code_form.specs.declared.code.Code.{Code}
use Rattle.code_form.specs.declared.case.Case.{Case}
use Rattle.code_form.specs.Places.{function_at, begins_at}
use Rattle.machine_form.specs.declared.frame.Frame.{Frame}
use Rattle.machine_form.specs.State.{State, with_writes}
use Rattle.machine_form.specs.Calls.{numbered}

unfoldable pub zeros : ℕ → List ℕ
zeros n = replicate n 0

-- the only frame: that of the case's function, with the arguments in its parameters
abbrev pub opening_frame : Code → Case → Frame
opening_frame code case = record {
  place = begins_at code case.function;
  registers = with_writes (replicate (function_at code case.function).registers None) (numbered 0 case.args);
  result = None;
  restores = code.stack_base;
}

-- the memory: the opening bytes of the code, and zeros behind them
abbrev pub opening_bytes : Code → List ℕ
opening_bytes code = code.memory ++ zeros (MEMORY_BYTES - length code.memory)

-- a state with no caller, no output and no ending, and with no input read
abbrev pub opening_of : Frame → List ℕ → ℕ → List ℕ → State
opening_of running bytes top input = record {
  running = running;
  callers = [];
  bytes = bytes;
  top = top;
  output = [];
  input = input;
  position = 0;
  ending =
      None;
}

abbrev pub start_of : Code → Case → State
start_of code case = opening_of (opening_frame code case) (opening_bytes code) code.stack_base case.input
