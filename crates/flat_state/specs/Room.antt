-- What contracts see of a flat state: what it stands for, and its room.
use Rattle.std.specs.Prelude.{ℕ, ◌≤◌, Option, Some, None}
use Rattle.code_form.specs.declared.code.Code.{Code}
use Rattle.code_form.specs.Places.{function_at}
use Rattle.machine_form.specs.declared.change.Change.{Change}
use Rattle.machine_form.specs.declared.change.Control.{Control}
use Rattle.machine_form.specs.declared.change.Control.TheVariants.{Next, Jump, Enter, Leave, End}
use Rattle.machine_form.specs.State.{State}

-- how many bytes of output, frames and registers fit in without memory, and how many bytes of memory are kept
pub record Room : Type 0 where
  pub output : ℕ
  pub frames : ℕ
  pub registers : ℕ
  pub memory : ℕ

-- the value of a flat state
pub record Shown : Type 0 where
  pub state : State
  pub room : Room

abbrev pub HasRoomToPut : Room → Option ℕ → Type 0
HasRoomToPut room None = Unit {0}
HasRoomToPut room (Some byte) = 1 ≤ room.output

abbrev pub HasRoomToGo : Code → Room → Control → Type 0
HasRoomToGo code room (Enter f) = (1 ≤ room.frames) × ((function_at code f).registers ≤ room.registers)
HasRoomToGo code room Next = Unit {0}
HasRoomToGo code room (Jump b) = Unit {0}
HasRoomToGo code room Leave = Unit {0}
HasRoomToGo code room (End ending) = Unit {0}

-- the change can be made without memory
pub record HasRoom (code : Code) (room : Room) (c : Change) : Type 0 where
  pub put : HasRoomToPut room c.put
  pub go : HasRoomToGo code room c.control
  pub top : c.top ≤ room.memory
