-- What an initialiser asks of the first level of its type.
use Rattle.std.specs.Prelude.{ℕ, nat_eq, Bool, false, ◌&&◌, List, length, Option, Some, None, slice_get}
use Rattle.am_base.specs.declared.word.Width.TheVariants.{W8}
use Rattle.code_form.specs.declared.code.TyScalar.TheVariants as scalar
use Rattle.type_layout.specs.declared.ty.Ty.{Ty}
use Rattle.type_layout.specs.declared.ty.Ty.TheOpen.{Ty-F}
use Rattle.type_table.specs.declared.shape.Shape.{Shape}
use Rattle.type_table.specs.declared.shape.Shape.TheVariants.{Array, Struct}
use Rattle.type_table.specs.Table.{type_at}
use Rattle.ir_rules.specs.Types.{scalar_of, same_kind}

-- ---- of a type

-- an array of so many elements; a struct of so many fields
abbrev pub is_array_of : ℕ → Ty-F Ty → Bool
is_array_of count (Ty-F.Array n of) = nat_eq count n
is_array_of count _ = false

abbrev pub is_struct_of : ℕ → Ty-F Ty → Bool
is_struct_of count (Ty-F.Struct fields) = nat_eq count (length fields)
is_struct_of count _ = false

-- what an element has to be of, by its place
abbrev pub part_type : Ty-F Ty → ℕ → Option Ty
part_type (Ty-F.Array n of) k = Some of
part_type (Ty-F.Struct fields) k = slice_get fields k
part_type _ k = None

-- ---- the same of a level with its parts by number

abbrev pub array_level : ℕ → Option Shape → Bool
array_level count (Some (Array n of)) = nat_eq count n
array_level count _ = false

abbrev pub struct_level : ℕ → Option Shape → Bool
struct_level count (Some (Struct parts)) = nat_eq count (length parts)
struct_level count _ = false

abbrev pub text_level : List Ty → ℕ → Option Shape → Bool
text_level ts count (Some (Array n of)) = nat_eq count n && same_kind (scalar_of (type_at ts of)) (Some (scalar.Int W8))
text_level ts count _ = false

abbrev pub part_level : ℕ → Option Shape → Option ℕ
part_level k (Some (Array n of)) = Some of
part_level k (Some (Struct parts)) = slice_get parts k
part_level k _ = None
