-- The rules of an item in their order, by what the pass knows of it.
use Rattle.std.specs.Prelude.{◌≡◌, ℕ, Bool, true, false, ◌||◌, List, [], length, Option, Some, None, if◌then◌else◌}
use Rattle.std.specs.List.{list_any}
use Rattle.code_form.specs.declared.sign.PortSign.{PortSign}
use Rattle.ir_tree.specs.declared.name.Name.{Name}
use Rattle.ir_tree.specs.declared.item.Item.{Item}
use Rattle.ir_tree.specs.declared.item.Item.TheVariants as item
use Rattle.ir_names.specs.Names.{firsts}
use Rattle.ir_rules.specs.declared.entity.Entity.{Entity}
use Rattle.ir_rules.specs.declared.local.Local.{Local}
use Rattle.ir_rules.specs.declared.rule.Rule.{Rule}
use Rattle.ir_rules.specs.declared.rule.Rule.TheVariants as rule
use Rattle.ir_rules.specs.declared.scope.Scope.{Scope}
use Rattle.ir_rules.specs.Types.{Kinds, TypeDefs, is_large}
use Rattle.ir_rules.specs.Parts.{types_of}
use Rattle.ir_rules.specs.Scopes.{with_item}
use Rattle.ir_rules.specs.Settings.{Setting, last_block}
use Rattle.ir_rules.specs.Operands.{unknown_type, recursive_type, type_too_large, scalar_wanted, unknown_name, type_differs, literal_range}
use Rattle.ir_rules.specs.Blocks.{unknown_label, phi_place, block_open, entry_target}
use Rattle.ir_rules.specs.Calls.{unknown_callee, call_differs, return_differs, declare_differs}
use Rattle.ir_rules.specs.Paths.{switch_case, get_path, result_misplaced, cast_width}
use Rattle.ir_rules.specs.Initialisers.{init_differs}
use Rattle.ir_rules.specs.Limits.{limit, is_instruction}
use Rattle.ir_block_rules.specs.Alone.{locals_alone, scope_alone, kinds_alone, result_alone}
use Rattle.ir_operand_rules.specs.Each.{setting_in}
use Rattle.ir_call_rules.specs.Alone.{calls_alone}
use Rattle.ir_call_rules.specs.Sources.{bucket, sources_once, phi_differs}
use Rattle.ir_pass.specs.declared.frame.Frame.{Frame}
use Rattle.ir_pass.specs.declared.seen.Seen.{Seen}
use Rattle.ir_pass.specs.Seen.{seen_of, outer_double_in, limit_in}
use Rattle.ir_checker.specs.declared.broken.Notes.{Notes}
use Rattle.ir_checker.specs.declared.broken.TypeBreaks.{TypeBreaks}

abbrev pub pick : Bool → Rule → Option Rule → Option Rule
pick broken r later = if broken then Some r else later

abbrev pub either : Bool → Bool → Bool
either a b = a || b

abbrev pub notes_of : Scope → Item → Notes
notes_of before x = record {
  phi_place = phi_place (scope_alone before) x;
  block_open = block_open (scope_alone before) x;
  own_block = last_block before;
  registers = length before.types;
}

-- ---- the rules, a few at a time

abbrev pub name_rules : Frame → Seen → TypeBreaks → Item → Option Rule → Option Rule
name_rules f seen t x later =
    pick (either (outer_double_in seen x) f.before.again) rule.DoubleName
    (pick f.before.low rule.NumberOrder
    (pick t.unknown_type rule.UnknownType
    (pick t.recursive_type rule.RecursiveType
    (pick t.type_too_large rule.TypeTooLarge
    (pick t.scalar_wanted rule.ScalarWanted later)))))

abbrev pub names_unknown : Kinds → List (Name × Entity) → List (Name × Local) → Bool → Item → Bool
names_unknown kind entities locals otherwise (item.Instr r o) = unknown_name (setting_in kind entities locals) (item.Instr None o)
names_unknown kind entities locals otherwise _ = otherwise

abbrev pub types_differ : Kinds → List (Name × Entity) → List (Name × Local) → Bool → Item → Bool
types_differ kind entities locals otherwise (item.Instr r o) = type_differs (setting_in kind entities locals) (item.Instr None o)
types_differ kind entities locals otherwise _ = otherwise

abbrev pub numbers_out : Kinds → List (Name × Entity) → List (Name × Local) → Bool → Item → Bool
numbers_out kind entities locals otherwise (item.Instr r o) = literal_range (setting_in kind entities locals) (item.Instr None o)
numbers_out kind entities locals otherwise _ = otherwise

abbrev pub operand_rules : Kinds → List (Name × Entity) → List (Name × Local) → TypeBreaks → Item → Option Rule → Option Rule
operand_rules kind entities locals t x later =
    pick (names_unknown kind entities locals t.unknown_name x) rule.UnknownName
    (pick (types_differ kind entities locals t.type_differs x) rule.TypeDiffers
    (pick (numbers_out kind entities locals t.literal_range x) rule.LiteralRange later))

abbrev pub block_rules : Frame → Notes → Item → Option Rule → Option Rule
block_rules f notes x later =
    pick (unknown_label (locals_alone f.function.table) x) rule.UnknownLabel
    (pick notes.phi_place rule.PhiPlace
    (pick (phi_differs f.function.table (bucket f.sources notes.own_block) x) rule.PhiEntries
    (pick notes.block_open rule.BlockOpen later)))

abbrev pub call_rules : Kinds → List (Name × Entity) → List PortSign → Frame → Item → Option Rule → Option Rule
call_rules kind entities signs f x later =
    pick (unknown_callee (calls_alone (λ t. None) entities signs) x) rule.UnknownCallee
    (pick (call_differs (calls_alone kind entities []) x) rule.CallDiffers
    (pick (return_differs (result_alone kind f.result) x) rule.ReturnDiffers
    (pick (switch_case (calls_alone kind [] []) x) rule.SwitchCase later)))

abbrev pub last_rules : Kinds → List PortSign → Frame → Seen → Notes → TypeBreaks → Item → Option Rule
last_rules kind signs f seen notes t x =
    pick t.get_path rule.GetPath
    (pick (result_misplaced x) rule.ResultName
    (pick t.init_differs rule.InitDiffers
    (pick (entry_target (locals_alone f.function.table) x) rule.EntryTarget
    (pick (cast_width (kinds_alone kind) x) rule.CastWidth
    (pick (declare_differs (calls_alone kind [] signs) x) rule.DeclareDiffers
    (pick (limit_in seen notes.registers (length f.before.types) t.full x) rule.Limit None))))))

-- ---- what the pass knows is the item's setting

pub record Fits (s : Setting) (x : Item) (kind : Kinds) (es : List (Name × Entity)) (ports : List PortSign) (f : Frame) (sn : Seen) (ns : Notes) : Type 0 where
  pub kinds : ◌≡◌ {A = Kinds} kind s.kind
  pub entities : es ≡ firsts s.entities
  pub signs : ports ≡ s.signs
  pub function : f.function ≡ s.function
  pub sources : (b : ℕ) → bucket f.sources b ≡ sources_once s s.edges b
  pub result : f.result ≡ s.result
  -- the item is passed, and the rest is that of before
  pub after : f.before ≡ with_item s.kind s.before x
  pub seen : sn ≡ seen_of s.above
  pub notes : ns ≡ notes_of s.before x

abbrev pub is_global : Item → Bool
is_global (item.Global n c t i) = true
is_global _ = false

-- a type that is written in the item, or one inside it, is larger than the greatest size
abbrev pub has_large : TypeDefs → Item → Bool
has_large defs x = list_any (is_large defs) (types_of x)

-- what the rules on types say of the item
pub record AreOf (s : Setting) (x : Item) (t : TypeBreaks) : Type 0 where
  pub unknown_type : t.unknown_type ≡ unknown_type s x
  pub recursive_type : t.recursive_type ≡ recursive_type s x
  pub type_too_large : t.type_too_large ≡ type_too_large s x
  pub scalar_wanted : t.scalar_wanted ≡ scalar_wanted s x
  pub get_path : t.get_path ≡ get_path s x
  pub init_differs : t.init_differs ≡ init_differs s x
  pub unknown_name : is_instruction x ≡ false → t.unknown_name ≡ unknown_name s x
  pub type_differs : is_instruction x ≡ false → t.type_differs ≡ type_differs s x
  pub literal_range : is_instruction x ≡ false → t.literal_range ≡ literal_range s x
  -- a type that is too large breaks an earlier rule
  pub full : is_global x ≡ true → has_large s.types x ≡ false → t.full ≡ limit s x
