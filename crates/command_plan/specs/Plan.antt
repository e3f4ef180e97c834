-- A command as a plan: the files that it reads, one after the other, the mutants and tests that it wants, and the text that is due.
use Rattle.std.specs.Prelude.{ℕ, ◌≤◌, ◌<◌, List, length, Bool, Option}
use Rattle.am_base.specs.declared.limits.TheConstants.{MAX_FILE_BYTES}
use Rattle.am_base.specs.Files.{Files, Holds, IsHeld}
use Rattle.command_plan.specs.declared.status.Input.{Input}

-- what a command raises: the steps on the meter, and the asks of the port of each number
pub record Counts : Type 0 where
  pub steps : ℕ
  pub asks : ℕ → ℕ

abbrev pub no_counts : Counts
no_counts = record { steps = 0; asks = λ port. 0 }

-- What a command does. Read: the file of this name is read. It is refused with a line, as this input, or it gives something, and the plan goes on
-- with that. Want: something is looked for in what was read. Where it isn't there, this input is refused with this line. Bound: what is due has at most as
-- many parts as it may have, and the plan goes on, or it has more. Over: the plan goes on over these files alone, each of which can be read. Write: `due`
-- says which text is due, and `rise` by how much the counts rise.
pub data Plan : Type 1 where
  Read : (name : List ℕ) (input : Input) (refuses : List ℕ → List ℕ → Type 0) (A : Type 0) (accepts : List ℕ → A → Type 0) (next : A → Plan) → Plan
  Want : (input : Input) (line : List ℕ) (A : Type 0) (wanted : Option A) (next : A → Plan) → Plan
  Bound : (within : Bool) (next : Plan) → Plan
  Over : (own : List ℕ → Option (List ℕ)) (next : Plan) → Plan
  Write : (due : List ℕ → Type 0) (rise : Counts → Type 0) → Plan

-- ---- files

-- a file that isn't too long
abbrev pub IsShort : List ℕ → Type 0
IsShort file = length file ≤ MAX_FILE_BYTES

-- the file of a name isn't too long, and this holds of it
pub record Reads (files : Files) (name : List ℕ) (Is : List ℕ → Type 0) : Type 0 where
  pub held : IsHeld files name
  pub short : (file : List ℕ) → Holds files name file → IsShort file
  pub read : (file : List ℕ) → Holds files name file → Is file

-- the file of a name is too long
pub record IsTooLong (files : Files) (name : List ℕ) : Type 0 where
  pub held : IsHeld files name
  pub long : (file : List ℕ) → Holds files name file → MAX_FILE_BYTES < length file
