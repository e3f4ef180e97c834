-- What a sink tells of the bytes written to it.
use Rattle.std.specs.Prelude.{◌≡◌, ℕ, ◌<◌, List, ◌++◌, take, length, min, Option, None, Some}

-- the bytes written, where the sink tells them
abbrev pub Written : Type 0
Written = Option (List ℕ)

-- what a sink tells after a piece was written behind the bytes before
abbrev pub appended : Written → List ℕ → Written
appended None piece = None
appended (Some bytes) piece = Some (bytes ++ piece)

-- a proper prefix of the piece was written behind the bytes before
abbrev pub AppendsProperPrefix : Written → Written → List ℕ → Type 0
AppendsProperPrefix old new piece = (count : ℕ) × (count < length piece) × (new ≡ appended old (take count piece))

-- what is written to memory: the bytes, how many there can be, and how many writes were refused
pub record MemoryText : Type 0 where
  pub written : List ℕ
  pub limit : ℕ
  pub faults : ℕ

-- how many bytes a sink in memory takes: those that it has room for, or fewer where it is to fail earlier
abbrev pub sink_limit : ℕ → Option ℕ → ℕ
sink_limit room None = room
sink_limit room (Some after) = min room after
