-- The rules that are asked of each operand by itself.
use Rattle.std.specs.Prelude.{Bool, false, ◌||◌, List, [], None, ℤ}
use Rattle.std.specs.List.{list_any}
use Rattle.ir_tree.specs.declared.name.Name.{Name}
use Rattle.ir_tree.specs.declared.type_text.TyText.{TyText}
use Rattle.ir_rules.specs.declared.entity.Entity.{Entity}
use Rattle.ir_rules.specs.declared.local.Local.{Local}
use Rattle.ir_rules.specs.Types.{Kinds}
use Rattle.ir_rules.specs.Scopes.{empty_scope}
use Rattle.ir_rules.specs.Parts.{Typed, indices_of}
use Rattle.ir_rules.specs.Settings.{Setting}
use Rattle.ir_rules.specs.Operands.{names_nothing, operand_differs, operand_out, no_integer, number_out}
use Rattle.ir_operand_rules.specs.declared.operand.OperandRule.{OperandRule}
use Rattle.ir_operand_rules.specs.declared.operand.OperandRule.TheVariants.{UnknownName, TypeDiffers, LiteralRange}

-- a setting with no more than the integers and pointers that types stand for, the global names and the function's names
abbrev pub setting_in : Kinds → List (Name × Entity) → List (Name × Local) → Setting
setting_in kind entities locals = record {
  types = [];
  kind = kind;
  entities = entities;
  signs = [];
  function = record empty_scope { table = locals };
  edges = [];
  result = None;
  above = [];
  before = empty_scope;
}

abbrev pub kinds_alone : Kinds → Setting
kinds_alone kind = setting_in kind [] []

-- an operand breaks a rule, its indices aside
abbrev pub own_breaks : Setting → OperandRule → Typed → Bool
own_breaks s UnknownName v = names_nothing s v.1
own_breaks s TypeDiffers v = operand_differs s (s.kind v.0) v.1
own_breaks s LiteralRange v = operand_out (s.kind v.0) v.1

-- an index of a constant breaks a rule
abbrev pub index_breaks : Kinds → OperandRule → TyText × ℤ → Bool
index_breaks kind UnknownName i = false
index_breaks kind TypeDiffers i = no_integer (kind i.0)
index_breaks kind LiteralRange i = number_out (kind i.0) i.1

abbrev pub operand_breaks : Setting → OperandRule → Typed → Bool
operand_breaks s rule v = own_breaks s rule v || list_any (index_breaks s.kind rule) (indices_of v.1)
