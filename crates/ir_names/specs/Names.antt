-- Names, and lists of definitions in which the first of a name counts.
use Rattle.std.specs.Prelude.{Bool, false, nat_eq, List, [], ◌∷◌, ◌++◌, Option, fold, is_some, if◌then◌else◌}
use Rattle.std.specs.Map.{lookup}
use Rattle.std.specs.Cmp.Lexicographic.{pointwise}
use Rattle.ir_tree.specs.declared.name.Name.{Name}
use Rattle.ir_tree.specs.declared.name.Name.TheVariants.{Text, Number}

-- the two names are one: a number isn't the digits in quotes
abbrev pub same_name : Name → Name → Bool
same_name (Text a) (Text b) = pointwise nat_eq a b
same_name (Text a) (Number n) = false
same_name (Number n) (Text b) = false
same_name (Number m) (Number n) = nat_eq m n

-- what a name is defined as: the first definition counts
abbrev pub defined : {X : Type 0} → List (Name × X) → Name → Option X
defined ds name = lookup (same_name name) ds

-- the definitions with one more at the end, unless its name has one
abbrev pub with_first : {X : Type 0} → List (Name × X) → Name × X → List (Name × X)
with_first ds d = if is_some (defined ds d.0) then ds else ds ++ d ∷ []

-- the definitions that count
abbrev pub firsts : {X : Type 0} → List (Name × X) → List (Name × X)
firsts ds = fold with_first [] ds
