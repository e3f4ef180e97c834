-- A walk along the indices of a path, over types by number.
use Rattle.std.specs.Prelude.{ℕ, List, Option, Some, None, slice_get}
use Rattle.type_layout.specs.declared.ty.Ty.{Ty, out-Ty}
use Rattle.type_table.specs.declared.shape.Shape.{Shape}
use Rattle.type_table.specs.declared.shape.Shape.TheVariants.{Array, Struct}
use Rattle.ir_rules.specs.Types.{TypeDefs}
use Rattle.ir_rules.specs.Parts.{Typed}
use Rattle.ir_rules.specs.Paths.{part_of}

-- the type with a number, where there is a number
abbrev pub typed_at : List Ty → Option ℕ → Option Ty
typed_at ts None = None
typed_at ts (Some n) = slice_get ts n

-- the number of a field's type
abbrev pub field_in : List ℕ → Option ℕ → Option ℕ
field_in parts None = None
field_in parts (Some n) = slice_get parts n

-- the number of the part that an index goes into: an element, or the field with a number
abbrev pub part_in : Option ℕ → Option Shape → Option ℕ
part_in field (Some (Array n of)) = Some of
part_in field (Some (Struct parts)) = field_in parts field
part_in field _ = None

-- the type that an index goes into
abbrev pub next_type : TypeDefs → Option Ty → Typed → Option Ty
next_type defs None i = None
next_type defs (Some t) i = part_of defs i (out-Ty t)
