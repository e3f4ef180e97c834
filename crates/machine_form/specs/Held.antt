-- A list of which a few elements are kept apart.
use Rattle.std.specs.Prelude.{ℕ, Bool, if◌then◌else◌, List, take}

-- all elements where they are many, and else the first of the places for a few
abbrev pub held : {X : Type 0} → Bool → List X → ℕ → List X → List X
held long all count few = if long then all else take count few
