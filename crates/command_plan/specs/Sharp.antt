-- Plans that end in one way.
use Rattle.std.specs.Prelude.{◌≡◌, ℕ, List, true, false, Option, Some, None}
use Rattle.std.specs.List.{Contains}
use Rattle.command_plan.specs.Plan.{Plan, Read, Want, Bound, Over, Write}
use Rattle.command_plan.specs.Ends.{End, Ends, Accepted, Text, Refused, Long, Fault, Many}

-- no file is refused with two lines, refused and accepted, or accepted as two things
abbrev pub IsSharp : Plan → Type 0
IsSharp (Read name input refuses A accepts next) =
    ((file line other : List ℕ) → refuses file line → refuses file other → line ≡ other)
    × ((file line : List ℕ) (x : A) → refuses file line → accepts file x → ⊥)
    × ((file : List ℕ) (x y : A) → accepts file x → accepts file y → x ≡ y)
    × ((file : List ℕ) (x : A) → accepts file x → IsSharp (next x))
IsSharp (Want input line A None next) = Unit {0}
IsSharp (Want input line A (Some x) next) = IsSharp (next x)
IsSharp (Bound false next) = Unit {0}
IsSharp (Bound true next) = IsSharp next
IsSharp (Over own next) = IsSharp next
IsSharp (Write due rise) = Unit {0}

-- the same end, up to the text and the counts
abbrev pub IsSameEnd : End → End → Type 0
IsSameEnd (Accepted counts) (Accepted rise) = Unit {0}
IsSameEnd (Accepted counts) (Text text rise) = Unit {0}
IsSameEnd (Text text counts) (Accepted rise) = Unit {0}
IsSameEnd (Text text counts) (Text other rise) = Unit {0}
IsSameEnd (Refused input line) (Refused other words) = (input ≡ other) × (line ≡ words)
IsSameEnd Long Long = Unit {0}
IsSameEnd Fault Fault = Unit {0}
IsSameEnd Many Many = Unit {0}
IsSameEnd _ _ = ⊥

-- the plan reads files of these names alone, but for files of its own
abbrev pub AreNames : List (List ℕ) → Plan → Type 0
AreNames names (Read name input refuses A accepts next) = Contains names name × ((x : A) → AreNames names (next x))
AreNames names (Want input line A None next) = Unit {0}
AreNames names (Want input line A (Some x) next) = AreNames names (next x)
AreNames names (Bound false next) = Unit {0}
AreNames names (Bound true next) = AreNames names next
AreNames names (Over own next) = Unit {0}
AreNames names (Write due rise) = Unit {0}

-- How a plan ends by the bytes of the files alone: a file that isn't held can't be read, and each other can.
abbrev pub IsDueEnd : (List ℕ → Option (List ℕ)) → Plan → End → Type 0
IsDueEnd held plan end = Ends (Some held) (λ name. held name ≡ None) plan end
