-- The numbers of what the names of types stand for.
use Rattle.std.specs.Prelude.{◌≡◌, ℕ, zero, suc, ◌<◌, ◌≤◌, Bool, true, false, List, length, map, Option, Some, None, slice_get, unwrap_or, if◌then◌else◌}
use Rattle.type_layout.specs.declared.ty.Ty.{Ty}
use Rattle.type_table.specs.Table.{type_at}
use Rattle.ir_tree.specs.declared.name.Name.{Name}
use Rattle.ir_tree.specs.declared.item.Item.{Item}
use Rattle.ir_names.specs.Names.{defined, firsts}
use Rattle.ir_rules.specs.Types.{TypeDefs, type_defs, empty, named_type, holds_itself}
use Rattle.ir_types.specs.declared.level.Graph.{Graph}
use Rattle.ir_types.specs.declared.level.Naming.{Naming}
use Rattle.ir_types.specs.Definitions.{numbered_from}
use Rattle.ir_types.specs.Graph.{numbers_in, next_of, reaches, held, tally}

-- the number of a definition's type: 0, that of `{}`, for a name without a definition and for a definition that contains itself
abbrev pub definition_number : List Bool → List ℕ → Option ℕ → ℕ
definition_number recursive named None = 0
definition_number recursive named (Some d) = if unwrap_or (slice_get recursive d) false then 0 else unwrap_or (slice_get named d) 0

abbrev pub name_number : List (Name × ℕ) → List Bool → List ℕ → Name → ℕ
name_number numbers recursive named n = definition_number recursive named (defined numbers n)

-- the types that have these numbers
abbrev pub types_in : List Ty → (Name → ℕ) → Name → Ty
types_in types number n = type_at types (number n)

-- with these numbers, the names stand for what they do where names are looked through so many times
abbrev pub Level : List Ty → List (Name × ℕ) → List Bool → List ℕ → TypeDefs → ℕ → Type 0
Level types numbers recursive named defs k = (n : Name) → slice_get types (name_number numbers recursive named n) ≡ Some (named_type defs k n)

-- the flags say of each definition whether it contains itself
abbrev pub Marks : List (Name × ℕ) → List Bool → TypeDefs → Type 0
Marks numbers recursive defs = (n : Name) (d : ℕ) → defined numbers n ≡ Some d → unwrap_or (slice_get recursive d) false ≡ holds_itself defs n

-- the definitions of a module, which of them each one names, and whether it contains itself
pub record IsGraph (g : Graph) : Type 0 where
  pub numbered : g.numbers.now ≡ firsts (numbered_from 0 (type_defs g.items.now))
  pub bodied : map (λ b. b.now) g.bodies.now ≡ map (λ d. d.1) (type_defs g.items.now)
  pub linked : g.edges.now ≡ map (λ d. numbers_in g.numbers.now d.1) (type_defs g.items.now)
  pub long : length g.recursive.now ≡ length g.edges.now
  pub exact : (d : ℕ) → unwrap_or (slice_get g.recursive.now d) false ≡ reaches g.edges.now (length g.edges.now) d d

-- those that are done have the numbers of what they stand for at last; so many of them are looked through at most
pub record AreExact (g : Graph) (naming : Naming) (types : List Ty) : Type 0 where
  pub zero : slice_get types 0 ≡ Some empty
  pub long : length naming.done ≡ length (type_defs g.items.now)
  pub many : length naming.named ≡ length (type_defs g.items.now)
  pub inside : (d : ℕ) → unwrap_or (slice_get naming.named d) 0 < length types
  pub cyclic : (d : ℕ) → held g.recursive.now d ≡ true → held naming.done d ≡ true
  pub exact : (n : Name) (d k : ℕ) → defined g.numbers.now n ≡ Some d → unwrap_or (slice_get g.recursive.now d) false ≡ false
      → held naming.done d ≡ true → tally naming.done ≤ k
      → slice_get types (unwrap_or (slice_get naming.named d) 0) ≡ Some (named_type (type_defs g.items.now) k n)

abbrev pub Stands : List ℕ → ℕ → Type 0
Stands order d = (j : ℕ) × (slice_get order j ≡ Some d)

-- a definition that doesn't contain itself names another one, and so on, so many times
abbrev pub Left : List (List ℕ) → List Bool → ℕ → ℕ → Type 0
Left es recursive zero d = held recursive d ≡ false
Left es recursive (suc p) d = (held recursive d ≡ false) × (j : ℕ) × (c : ℕ) × (slice_get (next_of es d) j ≡ Some c) × Left es recursive p c

-- the tables say what the types of a module stand for
pub record IsKnown (items : List Item) (numbers : List (Name × ℕ)) (recursive : List Bool) (named : List ℕ) (types : List Ty) : Type 0 where
  pub numbered : numbers ≡ firsts (numbered_from 0 (type_defs items))
  pub marks : Marks numbers recursive (type_defs items)
  pub level : Level types numbers recursive named (type_defs items) (length (type_defs items))
