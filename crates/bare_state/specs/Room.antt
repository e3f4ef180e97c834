-- What contracts see of a state without its memory: what it stands for, and its room.
use Rattle.std.specs.Prelude.{ℕ, ◌≤◌, List, [], Option, Some, None}
use Rattle.code_form.specs.declared.code.Code.{Code}
use Rattle.code_form.specs.Places.{function_at}
use Rattle.machine_form.specs.declared.change.Change.{Change}
use Rattle.machine_form.specs.declared.change.Control.{Control}
use Rattle.machine_form.specs.declared.change.Control.TheVariants.{Next, Jump, Enter, Leave, End}
use Rattle.machine_form.specs.State.{State}

-- how many bytes of output, frames and registers fit in without memory
pub record Room : Type 0 where
  pub output : ℕ
  pub frames : ℕ
  pub registers : ℕ

-- the value of a state without its memory: a state with no bytes, and the room
pub record Shown : Type 0 where
  pub state : State
  pub room : Room

-- the state without its memory
abbrev pub bare : State → State
bare s = record s { bytes = [] }

-- the state with this memory
abbrev pub with_memory : State → List ℕ → State
with_memory s bytes = record s { bytes = bytes }

abbrev pub HasRoomToPut : Room → Option ℕ → Type 0
HasRoomToPut room None = Unit {0}
HasRoomToPut room (Some byte) = 1 ≤ room.output

abbrev pub HasRoomToGo : Code → Room → Control → Type 0
HasRoomToGo code room (Enter f) = (1 ≤ room.frames) × ((function_at code f).registers ≤ room.registers)
HasRoomToGo code room Next = Unit {0}
HasRoomToGo code room (Jump b) = Unit {0}
HasRoomToGo code room Leave = Unit {0}
HasRoomToGo code room (End ending) = Unit {0}

-- all of the change but its bytes can be made without memory
pub record HasRoom (code : Code) (room : Room) (c : Change) : Type 0 where
  pub put : HasRoomToPut room c.put
  pub go : HasRoomToGo code room c.control
