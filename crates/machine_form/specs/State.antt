-- A state of a run.
use Rattle.std.specs.Prelude.{ℕ, ◌+◌, List, [], ◌∷◌, length, Option, Some, None, slice_set, slice_index_or, sum_by}
use Rattle.am_base.specs.declared.outcome.Ending.{Ending}
use Rattle.machine_form.specs.declared.frame.Frame.{Frame}

pub record State : Type 0 where
  -- the running frame
  pub running : Frame
  -- the call stack below it, the nearest caller first
  pub callers : List Frame
  -- the bytes of the memory, by address
  pub bytes : List ℕ
  -- the stack top, a byte address
  pub top : ℕ
  -- the bytes written so far
  pub output : List ℕ
  -- the bytes of the whole input
  pub input : List ℕ
  -- how many bytes of the input have been read
  pub position : ℕ
  -- how the run ended, if it did
  pub ending : Option Ending

-- the word of a register, where it is set
abbrev pub register : List (Option ℕ) → ℕ → Option ℕ
register registers r = slice_index_or registers r None

-- the number of frames
abbrev pub frames_of : State → ℕ
frames_of s = length s.callers + 1

-- the number of registers of all frames together
abbrev pub registers_in_use : State → ℕ
registers_in_use s = sum_by (λ f. length f.registers) (s.running ∷ s.callers)

-- the registers after some writes, in order
abbrev pub with_writes : List (Option ℕ) → List (ℕ × ℕ) → List (Option ℕ)
with_writes registers [] = registers
with_writes registers (w ∷ ws) = with_writes (slice_set registers w.0 (Some w.1)) ws

-- the bytes after some writes, in order
abbrev pub with_bytes : List ℕ → List (ℕ × ℕ) → List ℕ
with_bytes bytes [] = bytes
with_bytes bytes (w ∷ ws) = with_bytes (slice_set bytes w.0 w.1) ws
