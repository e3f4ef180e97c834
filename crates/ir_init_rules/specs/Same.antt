-- Whether two types by number are of one structure.
use Rattle.std.specs.Prelude.{ℕ, nat_eq, Bool, true, false, ◌&&◌, List, map}
use Rattle.type_layout.specs.declared.ty.Ty.{Ty}
use Rattle.type_table.specs.declared.shape.Shape.{Shape}
use Rattle.type_table.specs.declared.shape.Shape.TheVariants.{Int, Ptr, Array, Struct}
use Rattle.type_table.specs.Table.{type_at}
use Rattle.ir_rules.specs.Types.{same_width, all_agree}
use Rattle.ir_rules.specs.Initialisers.{same_type}

-- the types with two numbers are of one structure
abbrev pub same_at : List Ty → ℕ → ℕ → Bool
same_at ts i j = same_type (type_at ts i) (type_at ts j)

-- those with the numbers of one list are those with the numbers of the other
abbrev pub same_parts : List Ty → List ℕ → List ℕ → Bool
same_parts ts is js = all_agree (map (same_at ts) is) js

-- two first levels are those of one structure
abbrev pub same_levels : List Ty → Shape → Shape → Bool
same_levels ts (Int v) (Int w) = same_width v w
same_levels ts Ptr Ptr = true
same_levels ts (Array m i) (Array n j) = nat_eq m n && same_at ts i j
same_levels ts (Struct is) (Struct js) = same_parts ts is js
same_levels ts _ _ = false
