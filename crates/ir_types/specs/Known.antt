-- What is known of the types of a module.
use Rattle.std.specs.Prelude.{List}
use Rattle.type_layout.specs.declared.ty.Ty.{Ty}
use Rattle.ir_rules.specs.Types.{TypeDefs}

pub record Known : Type 0 where
  -- the type definitions of the module, in text order
  pub defs : TypeDefs
  -- the types that have a number
  pub types : List Ty
