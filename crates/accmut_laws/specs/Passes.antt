-- A plan that goes through.
use Rattle.std.specs.Prelude.{ℕ, List, true, false, Option, Some, None}
use Rattle.command_plan.specs.Plan.{Plan, Read, Want, Bound, Over, Write, Reads}

-- each file is held, isn't too long and is accepted, all that is wanted is there, and what is due isn't too much
abbrev pub Passes : (List ℕ → Option (List ℕ)) → Plan → Type 0
Passes held (Read name input refuses A accepts next) = (x : A) × Reads (Some held) name (λ file. accepts file x) × Passes held (next x)
Passes held (Want input line A None next) = ⊥
Passes held (Want input line A (Some x) next) = Passes held (next x)
Passes held (Bound false next) = ⊥
Passes held (Bound true next) = Passes held next
Passes held (Over own next) = Passes own next
Passes held (Write due rise) = Unit {0}
