-- What is known of a module, by which its replacements are judged.
use Rattle.std.specs.Prelude.{◌≡◌, ◌<◌, ◌^◌, false, List, length, Option, Some, None, if◌then◌else◌}
use Rattle.code_form.specs.declared.instr.Instr.{Instr}
use Rattle.code_form.specs.declared.sign.PortSign.{PortSign}
use Rattle.ir_tree.specs.declared.name.Name.{Name}
use Rattle.ir_tree.specs.declared.op.Op.{Op}
use Rattle.ir_tree.specs.declared.item.Item.{Item}
use Rattle.ir_tree.specs.declared.item.Item.TheVariants as item
use Rattle.ir_names.specs.Names.{defined, firsts}
use Rattle.ir_rules.specs.Types.{TypeDefs, Kinds, type_defs, kind_of}
use Rattle.ir_rules.specs.Entities.{entities_of}
use Rattle.ir_rules.specs.Blocks.{block_number}
use Rattle.ir_rules.specs.Codes.{op_code, register_of}
use Rattle.ir_rules.specs.Memory.{addresses_of}
use Rattle.ir_rules.specs.Rules.{fault}
use Rattle.ir_scopes.specs.Kinds.{kind_in}
use Rattle.ir_sound.specs.Whole.{AreWhole}
use Rattle.ir_pass.specs.declared.frame.Frame.{Frame}
use Rattle.ir_op_codes.specs.Alone.{AreSame, code_alone, function_number}
use Rattle.ir_replacements.specs.Breaks.{breaks_by}
use Rattle.ir_replacements.specs.Shapes.{differs}
use Rattle.ir_replacements.specs.Places.{IsPassed}
use Rattle.ir_replacements.specs.declared.places.Spot.{Spot}
use Rattle.ir_replacements.specs.declared.replace.Prepared.{Prepared}

-- the item is this instruction, whatever its result
abbrev pub IsItemOf : Item → Op → Type 0
IsItemOf x o = (r : Option Name) × (x ≡ item.Instr r o)

-- there are so few registers, blocks and functions that a code can number them
pub record HasFew (k : Prepared) (f : Frame) : Type 0 where
  pub registers : (n : Name) → register_of (defined f.function.table n) < 2 ^ 32
  pub blocks : (n : Name) → block_number (defined f.function.table n) < 2 ^ 32
  pub functions : (n : Name) → function_number (defined k.entities n) < 2 ^ 32

-- the instruction of the code, unless it is of another kind or breaks a rule
abbrev pub replaced : TypeDefs → Prepared → Frame → Spot → Item → Op → Option Instr
replaced defs k f s x o =
    if differs (kind_in k.kinds.names) s.op.now s.labels o then None
    else (if breaks_by defs (kind_in k.kinds.names) k.entities k.ports f.function.table f.result x o then None
    else Some (op_code (code_alone defs f.function.table k.entities k.ports) k.addresses o))

-- all that is known of the items is theirs, and they keep the rules
pub record IsPrepared (defs : TypeDefs) (k : Prepared) : Type 0 where
  pub types : defs ≡ type_defs k.items.now
  pub kinds : ◌≡◌ {A = Kinds} (kind_in k.kinds.names) (kind_of (type_defs k.items.now))
  pub entities : k.entities ≡ firsts (entities_of (kind_in k.kinds.names) k.items.now)
  pub addresses : AreSame k.addresses (addresses_of (type_defs k.items.now) k.items.now)
  pub places : IsPassed (kind_in k.kinds.names) k.items.now (length k.items.now) k.places
  pub whole : AreWhole false k.items.now
  pub faultless : fault k.items.now k.ports ≡ None

-- the items and ports that a checker decides over
pub record Subject : Type 0 where
  pub items : List Item
  pub signs : List PortSign
