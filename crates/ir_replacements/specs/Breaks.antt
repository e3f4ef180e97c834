-- The rules that are asked of a replacement, each by no more than what it asks for.
use Rattle.std.specs.Prelude.{◌≡◌, Bool, false, ◌||◌, List, [], None, Option}
use Rattle.code_form.specs.declared.code.TyScalar.{TyScalar}
use Rattle.code_form.specs.declared.sign.PortSign.{PortSign}
use Rattle.ir_tree.specs.declared.name.Name.{Name}
use Rattle.ir_tree.specs.declared.op.Op.{Op}
use Rattle.ir_tree.specs.declared.item.Item.{Item}
use Rattle.ir_tree.specs.declared.item.Item.TheVariants as item
use Rattle.ir_names.specs.Names.{firsts}
use Rattle.ir_rules.specs.declared.entity.Entity.{Entity}
use Rattle.ir_rules.specs.declared.local.Local.{Local}
use Rattle.ir_rules.specs.Types.{TypeDefs, Kinds}
use Rattle.ir_rules.specs.Settings.{Setting}
use Rattle.ir_rules.specs.Operands.{unknown_type, type_too_large, scalar_wanted, unknown_name, type_differs, literal_range}
use Rattle.ir_rules.specs.Blocks.{unknown_label, entry_target}
use Rattle.ir_rules.specs.Calls.{unknown_callee, call_differs, return_differs}
use Rattle.ir_rules.specs.Paths.{switch_case, get_path, cast_width}
use Rattle.ir_block_rules.specs.Alone.{locals_alone, result_alone}
use Rattle.ir_block_rules.specs.Alone as blocks
use Rattle.ir_operand_rules.specs.Each.{setting_in}
use Rattle.ir_call_rules.specs.Alone.{calls_alone}
use Rattle.ir_type_rules.specs.Alone.{types_alone}
use Rattle.ir_type_rules.specs.Alone as types

abbrev pub either : Bool → Bool → Bool
either a b = a || b

abbrev pub type_rules : TypeDefs → Kinds → Item → Bool → Bool
type_rules defs kind x later =
    either (unknown_type (types_alone defs) x)
    (either (type_too_large (types_alone defs) x)
    (either (scalar_wanted (types.kinds_alone kind) x) later))

abbrev pub operand_rules : Kinds → List (Name × Entity) → List (Name × Local) → Op → Bool → Bool
operand_rules kind entities locals o later =
    either (unknown_name (setting_in kind entities locals) (item.Instr None o))
    (either (type_differs (setting_in kind entities locals) (item.Instr None o))
    (either (literal_range (setting_in kind entities locals) (item.Instr None o)) later))

abbrev pub call_rules : Kinds → List (Name × Entity) → List PortSign → Option (Option TyScalar) → Item → Bool → Bool
call_rules kind entities signs result x later =
    either (unknown_callee (calls_alone (λ t. None) entities signs) x)
    (either (call_differs (calls_alone kind entities []) x)
    (either (return_differs (result_alone kind result) x)
    (either (switch_case (calls_alone kind [] []) x) later)))

abbrev pub last_rules : Kinds → List (Name × Local) → Bool → Item → Bool
last_rules kind locals path x =
    either path (either (entry_target (locals_alone locals) x) (either (cast_width (blocks.kinds_alone kind) x) false))

-- one of the rules is broken
abbrev pub breaks_by : TypeDefs → Kinds → List (Name × Entity) → List PortSign → List (Name × Local) → Option (Option TyScalar) → Item → Op → Bool
breaks_by defs kind entities signs locals result x o =
    type_rules defs kind x (operand_rules kind entities locals o
    (either (unknown_label (locals_alone locals) x)
    (call_rules kind entities signs result x (last_rules kind locals (get_path (types_alone defs) x) x))))

-- a setting is told by the type definitions, and by what names stand for
pub record IsAskedBy (s : Setting) (defs : TypeDefs) (kind : Kinds) (es : List (Name × Entity)) (ports : List PortSign) (table : List (Name × Local))
    (returned : Option (Option TyScalar)) : Type 0 where
  pub types : defs ≡ s.types
  pub kinds : ◌≡◌ {A = Kinds} kind s.kind
  pub entities : es ≡ firsts s.entities
  pub signs : ports ≡ s.signs
  pub locals : table ≡ s.function.table
  pub result : returned ≡ s.result
