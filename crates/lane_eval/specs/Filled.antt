-- Changes that are filled in part by part.
use Rattle.std.specs.Prelude.{ℕ, Bool, true, false, List, [], Option, Some, None}
use Rattle.machine_form.specs.declared.change.Change.{Change}
use Rattle.machine_form.specs.declared.change.Control.{Control}

-- the change that writes these registers and nothing else
abbrev pub quiet_change : List (ℕ × ℕ) → ℕ → Control → Change
quiet_change writes top control = record { writes = writes; bytes = []; top = top; put = None; took = false; control = control }

-- the list, where all that it is made of was there
abbrev pub if_all : {X : Type 0} → Bool → List X → Option (List X)
if_all true xs = Some xs
if_all false xs = None
