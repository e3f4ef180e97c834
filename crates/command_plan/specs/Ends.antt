-- How a plan ends.
use Rattle.std.specs.Prelude.{◌≡◌, ◌⊎◌, ℕ, List, true, false, Some, None}
use Rattle.am_base.specs.Files.{Files}
use Rattle.command_plan.specs.declared.status.Input.{Input}
use Rattle.command_plan.specs.declared.status.Status.{Status}
use Rattle.command_plan.specs.declared.status.Status.TheVariants as status
use Rattle.command_plan.specs.Status.{refused}
use Rattle.command_plan.specs.Plan.{Counts, Plan, Read, Want, Bound, Over, Write, Reads, IsTooLong}

-- Accepted: every file is accepted, everything wanted is there, and the counts are to rise by these. Text: and this text is due. Refused: an input is
-- refused with a line. Long: a file is too long. Fault: a file couldn't be read. Many: what is due would have more parts than it may have.
pub data End : Type 0 where
  Accepted : Counts → End
  Text : List ℕ → Counts → End
  Refused : Input → List ℕ → End
  Long : End
  Fault : End
  Many : End

-- a plan stops at a file
abbrev pub StopsAt : Files → (List ℕ → Type 0) → List ℕ → Input → (List ℕ → List ℕ → Type 0) → End → Type 0
StopsAt files Faulty name input refuses (Accepted counts) = ⊥
StopsAt files Faulty name input refuses (Text text counts) = ⊥
StopsAt files Faulty name input refuses (Refused other line) = (other ≡ input) × Reads files name (λ file. refuses file line)
StopsAt files Faulty name input refuses Long = IsTooLong files name
StopsAt files Faulty name input refuses Fault = Faulty name
StopsAt files Faulty name input refuses Many = ⊥

-- what a plan comes to behind its last file
abbrev pub Comes : (List ℕ → Type 0) → (Counts → Type 0) → End → Type 0
Comes due rise (Accepted counts) = rise counts
Comes due rise (Text text counts) = due text × rise counts
Comes due rise (Refused input line) = ⊥
Comes due rise Long = ⊥
Comes due rise Fault = ⊥
Comes due rise Many = ⊥

-- a plan ends so over these files, of which those with these names are faulty: it stops at a file, or goes on with what the file gives
abbrev pub Ends : Files → (List ℕ → Type 0) → Plan → End → Type 0
Ends files Faulty (Read name input refuses A accepts next) end =
    StopsAt files Faulty name input refuses end ⊎ ((x : A) × Reads files name (λ file. accepts file x) × Ends files Faulty (next x) end)
Ends files Faulty (Want input line A None next) end = end ≡ Refused input line
Ends files Faulty (Want input line A (Some x) next) end = Ends files Faulty (next x) end
Ends files Faulty (Bound false next) end = end ≡ Many
Ends files Faulty (Bound true next) end = Ends files Faulty next end
Ends files Faulty (Over own next) end = Ends (Some own) (λ name. ⊥) next end
Ends files Faulty (Write due rise) end = Comes due rise end

-- the status of an end
abbrev pub status_of : End → Status
status_of (Accepted counts) = status.Done
status_of (Text text counts) = status.Done
status_of (Refused input line) = refused input
status_of Long = status.TooLong
status_of Fault = status.ReadFault
status_of Many = status.TooMany
