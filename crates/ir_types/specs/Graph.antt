-- Which definitions name which, by number.
use Rattle.std.specs.Prelude.{◌≡◌, ℕ, zero, suc, ◌+◌, nat_eq, Bool, true, false, not, ◌||◌, if◌then◌else◌, List, [], ◌∷◌, length, flat_map, Option, Some, None, is_some, slice_get, unwrap_or}
use Rattle.std.specs.List.{list_any, count_by}
use Rattle.ir_tree.specs.declared.name.Name.{Name}
use Rattle.ir_tree.specs.declared.type_text.TyText.{TyText}
use Rattle.ir_names.specs.Names.{defined}
use Rattle.ir_rules.specs.Types.{names_in}

abbrev pub maybe_number : Option ℕ → List ℕ
maybe_number None = []
maybe_number (Some d) = d ∷ []

-- the numbers of the definitions that a type names
abbrev pub numbers_in : List (Name × ℕ) → TyText → List ℕ
numbers_in nums t = flat_map (λ n. maybe_number (defined nums n)) (names_in t)

abbrev pub names_unknown : List (Name × ℕ) → TyText → Bool
names_unknown nums t = list_any (λ n. not (is_some (defined nums n))) (names_in t)

-- the definitions that a definition names
abbrev pub next_of : List (List ℕ) → ℕ → List ℕ
next_of es a = unwrap_or (slice_get es a) []

-- a definition leads to another one in so many steps or fewer
unfoldable pub reaches : List (List ℕ) → ℕ → ℕ → ℕ → Bool
reaches es zero a b = false
reaches es (suc k) a b = list_any (λ c. nat_eq c b || reaches es k c b) (next_of es a)

-- ---- flags of definitions

-- the flag of a definition is set, or there is no such definition
abbrev pub held : List Bool → ℕ → Bool
held flags d = unwrap_or (slice_get flags d) true

-- one of the definitions has a flag that isn't set
abbrev pub some_left : List Bool → List ℕ → Bool
some_left flags list = list_any (λ c. not (held flags c)) list

abbrev pub tally : List Bool → ℕ
tally flags = count_by (λ b. b) flags

-- one flag more is set
pub record SetsFlag (old : List Bool) (d : ℕ) (new : List Bool) : Type 0 where
  pub flags : (c : ℕ) → held new c ≡ (nat_eq c d || held old c)
  pub long : length new ≡ length old
  pub count : tally new ≡ (if held old d then tally old else tally old + 1)

-- the flags are of definitions from which no way leads to one that leads to itself
pub record AreGrounded (es : List (List ℕ)) (flags : List Bool) : Type 0 where
  pub long : length flags ≡ length es
  pub closed : (d : ℕ) → held flags d ≡ true → some_left flags (next_of es d) ≡ false
  pub none : (k d : ℕ) → held flags d ≡ true → reaches es k d d ≡ false
