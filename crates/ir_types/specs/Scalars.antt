-- The integer or pointer that one level of a type is.
use Rattle.std.specs.Prelude.{List, length, Option, Some, None}
use Rattle.code_form.specs.declared.code.TyScalar.{TyScalar}
use Rattle.code_form.specs.declared.code.TyScalar.TheVariants as scalar
use Rattle.ir_tree.specs.declared.name.Name.{Name}
use Rattle.ir_tree.specs.declared.item.Item.{Item}
use Rattle.ir_tree.specs.declared.item.Item.TheVariants as item
use Rattle.ir_names.specs.Names.{with_first}
use Rattle.ir_rules.specs.Types.{TypeDefs, named_type, scalar_of}
use Rattle.type_table.specs.declared.shape.Shape.{Shape}
use Rattle.type_table.specs.declared.shape.Shape.TheVariants as shape

abbrev pub scalar_shape : Shape → Option TyScalar
scalar_shape (shape.Int w) = Some (scalar.Int w)
scalar_shape shape.Ptr = Some scalar.Ptr
scalar_shape _ = None

abbrev pub scalar_from : Option Shape → Option TyScalar
scalar_from None = None
scalar_from (Some s) = scalar_shape s

-- the integer or pointer that a name stands for
abbrev pub name_kind : TypeDefs → Name → Option TyScalar
name_kind defs n = scalar_of (named_type defs (length defs) n)

-- one item more in a table of them
abbrev pub with_kind : (Name → Option TyScalar) → List (Name × Option TyScalar) → Item → List (Name × Option TyScalar)
with_kind kind table (item.TypeDef n t) = with_first table (n, kind n)
with_kind kind table _ = table
