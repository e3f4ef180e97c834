-- The changes of calls and returns: functions of the code, ports, and the four outside functions that every machine knows.
use Rattle.std.specs.Prelude.{ℕ, ◌+◌, ◌-◌, ◌%◌, ◌^◌, true, false, nat_lt, nat_le, if◌then◌else◌, List, [], ◌∷◌, length, Option, Some, None, slice_get}
use Rattle.am_base.specs.declared.limits.TheConstants.{MAX_FRAMES, MAX_LIVE_REGISTERS, MAX_OUTPUT_BYTES}
use Rattle.am_base.specs.declared.word.Width.{Width}
use Rattle.am_base.specs.declared.outcome.Ending.TheVariants.{Return, Exit as Exited}
use Rattle.am_base.specs.declared.outcome.Trap.TheVariants.{Abort as Aborted, DepthFull, RegistersFull, OutputFull, PortRefused}
use Rattle.am_base.specs.Word.{bits_of, first_of}
use Rattle.code_form.specs.declared.instr.Callee.{Callee}
use Rattle.code_form.specs.declared.instr.Callee.TheVariants.{Func, Port, PutChar, GetChar, Exit, Abort}
use Rattle.code_form.specs.declared.code.Code.{Code}
use Rattle.code_form.specs.declared.sign.PortSign.{PortSign}
use Rattle.code_form.specs.Places.{function_at}
use Rattle.machine_form.specs.declared.change.Change.{Change}
use Rattle.machine_form.specs.declared.change.Control.TheVariants.{Next, Enter, Leave}
use Rattle.machine_form.specs.declared.frame.Frame.{Frame}
use Rattle.machine_form.specs.State.{State, frames_of, registers_in_use}
use Rattle.machine_form.specs.Straight.{end_change, trap_change, write_of, word_change}

-- the meaning of the ports: the word that a port returns for its arguments, or None. A port is an index into the code's signatures
abbrev pub Answers : Type 0
Answers = ℕ → List ℕ → Option ℕ

-- each word paired with a register: the first with register `r`, the next with `r + 1`, and so on
abbrev pub numbered : ℕ → List ℕ → List (ℕ × ℕ)
numbered r [] = []
numbered r (x ∷ xs) = (r, x) ∷ numbered (r + 1) xs

-- a call of a function of the code. It traps where the limit of frames, or that of registers in use, would be passed
abbrev pub enter_change : Code → State → ℕ → List ℕ → Change
enter_change code s f args =
    if nat_lt MAX_FRAMES (frames_of s + 1)
    then trap_change s DepthFull
    else (if nat_lt MAX_LIVE_REGISTERS (registers_in_use s + (function_at code f).registers)
    then trap_change s RegistersFull
    else record { writes = numbered 0 args; bytes = []; top = s.top; put = None; took = false; control = Enter f })

-- the width of a port's result, if it has one
abbrev pub width_of_sign : Option PortSign → Option Width
width_of_sign None = None
width_of_sign (Some sign) = sign.result

-- a call of a port: the returned word in the width of the port's result, no word where it has no result, and a trap where it returns None
abbrev pub answer_change : State → Option ℕ → Option Width → Option ℕ → Change
answer_change s r w None = trap_change s PortRefused
answer_change s r None (Some x) = word_change s None 0
answer_change s r (Some w) (Some x) = word_change s r (x % 2 ^ bits_of w)

-- `putchar`: the word's lowest byte is appended to the output, and is the call's word
abbrev pub put_change : State → Option ℕ → ℕ → Change
put_change s r x =
    if nat_le MAX_OUTPUT_BYTES (length s.output)
    then trap_change s OutputFull
    else record { writes = write_of r (x % 256); bytes = []; top = s.top; put = Some (x % 256); took = false; control = Next }

-- `getchar`: the next input byte, or -1 at the end of the input
abbrev pub take_change : State → Option ℕ → Option ℕ → Change
take_change s r None = word_change s r (2 ^ 32 - 1)
take_change s r (Some b) = record { writes = write_of r b; bytes = []; top = s.top; put = None; took = true; control = Next }

abbrev pub call_change : Code → Answers → State → Option ℕ → Callee → List ℕ → Change
call_change code answers s r (Func f) args = enter_change code s f args
call_change code answers s r (Port p) args = answer_change s r (width_of_sign (slice_get code.signs p)) (answers p args)
call_change code answers s r PutChar args = put_change s r (first_of args)
call_change code answers s r GetChar args = take_change s r (slice_get s.input s.position)
call_change code answers s r Exit args = end_change s (Exited (first_of args))
call_change code answers s r Abort args = trap_change s Aborted

-- the write of a returned word, where there is one and the call has a register for it
abbrev pub write_back : Option ℕ → Option ℕ → List (ℕ × ℕ)
write_back (Some r) (Some word) = (r, word) ∷ []
write_back _ _ = []

-- a return: it ends the run where there is no caller, and else goes back to the nearest caller, the head of the list
abbrev pub return_change : State → List Frame → Option ℕ → Change
return_change s [] word = end_change s (Return word)
return_change s (caller ∷ more) word = record {
  writes = write_back s.running.result word;
  bytes = [];
  top = s.running.restores;
  put = None;
  took = false;
  control = Leave;
}
