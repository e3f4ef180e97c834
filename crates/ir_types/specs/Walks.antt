-- A walk from one definition along those that definitions name.
use Rattle.std.specs.Prelude.{◌≡◌, ◌⊎◌, ℕ, suc, ◌+◌, ◌≤◌, Bool, true, false, if◌then◌else◌, List, [], ◌∷◌, ◌++◌, length, Some, slice_get}
use Rattle.ir_types.specs.declared.walk.Walk.{Walk}
use Rattle.ir_types.specs.Graph.{next_of, reaches, held, some_left, tally, SetsFlag}

-- a walk comes to a definition, for the first time or again
pub record Enters (old : Walk) (c : ℕ) (new : Walk) : Type 0 where
  pub marks : SetsFlag old.marks c new.marks
  pub queue : new.queue ≡ (if held old.marks c then old.queue else old.queue ++ c ∷ [])

-- a definition stands in a queue, at a place or behind it
abbrev pub Waits : List ℕ → ℕ → ℕ → Type 0
Waits queue i a = (j : ℕ) × (i ≤ j) × (slice_get queue j ≡ Some a)

-- a walk from d that has gone on from i definitions, where those that have a flag count as done
pub record IsWalk (es : List (List ℕ)) (flags : List Bool) (d i : ℕ) (walk : Walk) : Type 0 where
  pub long : length walk.marks ≡ length es
  pub count : tally walk.marks ≡ tally flags + length walk.queue
  pub named : (j a : ℕ) → slice_get walk.queue j ≡ Some a → reaches es (length walk.queue) d a ≡ true
  pub sound : (e : ℕ) → held walk.marks e ≡ true → (held flags e ≡ true) ⊎ (reaches es (length walk.queue) d e ≡ true)
  pub rest : (a : ℕ) → held walk.marks a ≡ true → (some_left walk.marks (next_of es a) ≡ false) ⊎ Waits walk.queue i a

-- d leads to each of some definitions in a step more
abbrev pub Leads : List (List ℕ) → ℕ → ℕ → List ℕ → Type 0
Leads es d k list = (j c : ℕ) → slice_get list j ≡ Some c → reaches es (suc k) d c ≡ true

-- a walk comes to the definitions in `seen`, which are of those in `list`
pub record Visits (old : Walk) (list seen : List ℕ) (new : Walk) : Type 0 where
  pub walk : (es : List (List ℕ)) (flags : List Bool) (d i : ℕ) → i ≤ length old.queue → IsWalk es flags d i old
      → Leads es d (length old.queue) list → IsWalk es flags d i new
  pub all : some_left new.marks seen ≡ false
  pub grows : (c : ℕ) → held old.marks c ≡ true → held new.marks c ≡ true
  pub more : length old.queue ≤ length new.queue
  pub kept : (j a : ℕ) → slice_get old.queue j ≡ Some a → slice_get new.queue j ≡ Some a
