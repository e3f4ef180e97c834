-- What the rules say of an item that follow the paths and initialisers in it.
use Rattle.std.specs.Prelude.{◌≡◌, false}
use Rattle.ir_tree.specs.declared.item.Item.{Item}
use Rattle.ir_rules.specs.Types.{TypeDefs, Kinds}
use Rattle.ir_rules.specs.Settings.{Setting}
use Rattle.ir_rules.specs.Limits.{is_instruction}
use Rattle.ir_rules.specs.Operands as operands
use Rattle.ir_rules.specs.Paths as paths
use Rattle.ir_rules.specs.Initialisers as initialisers
use Rattle.ir_typed_rules.specs.declared.typed.Walked.{Walked}

-- a setting has these type definitions, and types stand for these integers and pointers
pub record IsTold (s : Setting) (defs : TypeDefs) (kind : Kinds) : Type 0 where
  pub types : defs ≡ s.types
  pub kinds : ◌≡◌ {A = Kinds} kind s.kind

pub record WalksAre (s : Setting) (x : Item) (w : Walked) : Type 0 where
  pub get_path : w.get_path ≡ paths.get_path s x
  pub init_differs : w.init_differs ≡ initialisers.init_differs s x
  pub unknown_name : is_instruction x ≡ false → w.unknown_name ≡ operands.unknown_name s x
  pub type_differs : is_instruction x ≡ false → w.type_differs ≡ operands.type_differs s x
  pub literal_range : is_instruction x ≡ false → w.literal_range ≡ operands.literal_range s x
