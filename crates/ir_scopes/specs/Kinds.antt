-- What a type stands for where it is an integer or a pointer, by a table of the type names.
use Rattle.std.specs.Prelude.{List, Option, Some, None}
use Rattle.code_form.specs.declared.code.TyScalar.{TyScalar}
use Rattle.code_form.specs.declared.code.TyScalar.TheVariants as scalar
use Rattle.ir_tree.specs.declared.name.Name.{Name}
use Rattle.ir_tree.specs.declared.type_text.TyText.{TyText}
use Rattle.ir_tree.specs.declared.type_text.TyText.TheVariants as ty
use Rattle.ir_names.specs.Names.{defined}

abbrev pub flat : Option (Option TyScalar) → Option TyScalar
flat None = None
flat (Some k) = k

abbrev pub kind_in : List (Name × Option TyScalar) → TyText → Option TyScalar
kind_in table (ty.Int w) = Some (scalar.Int w)
kind_in table ty.Ptr = Some scalar.Ptr
kind_in table (ty.Named n) = flat (defined table n)
kind_in table _ = None
