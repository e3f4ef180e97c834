-- The faults of a record: each with whether the record has it, in the order in which they count.
use Rattle.std.specs.Prelude.{Bool, if◌then◌else◌, List, [], ◌∷◌, Option, Some, None, Result, Ok, Err}

abbrev pub Faults : Type 0 → Type 0
Faults E = List (Bool × E)

abbrev pub first_fault : {E : Type 0} → Faults E → Option E
first_fault [] = None
first_fault (f ∷ faults) = if f.0 then Some f.1 else first_fault faults

-- what was made, unless there is a fault
abbrev pub unless : {A E : Type 0} → Option E → A → Result A E
unless None made = Ok made
unless (Some error) made = Err error

abbrev pub read_on : {A B E : Type 0} → Result A E → (A → Result B E) → Result B E
read_on (Ok x) more = more x
read_on (Err error) more = Err error
