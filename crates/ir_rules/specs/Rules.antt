-- The rules of a module: what it means that an item breaks one, and the first fault.
use Rattle.std.specs.Prelude.{ℕ, suc, Bool, false, ◌||◌, List, [], ◌∷◌, Option, Some, None, find}
use Rattle.std.specs.List.{list_any}
use Rattle.code_form.specs.declared.sign.PortSign.{PortSign}
use Rattle.ir_tree.specs.declared.name.Name.{Name}
use Rattle.ir_tree.specs.declared.item.Item.{Item}
use Rattle.ir_tree.specs.declared.item.Item.TheVariants as item
use Rattle.ir_names.specs.Names.{same_name, defined}
use Rattle.std.specs.Prelude.{is_some}
use Rattle.ir_rules.specs.declared.local.Local.{Local}
use Rattle.ir_rules.specs.declared.rule.Rule.{Rule}
use Rattle.ir_rules.specs.declared.rule.Rule.TheVariants.{DoubleName, NumberOrder, UnknownType, RecursiveType, TypeTooLarge, ScalarWanted, UnknownName}
use Rattle.ir_rules.specs.declared.rule.Rule.TheVariants.{TypeDiffers, LiteralRange, UnknownLabel, PhiPlace, PhiEntries, BlockOpen, UnknownCallee}
use Rattle.ir_rules.specs.declared.rule.Rule.TheVariants.{CallDiffers, ReturnDiffers, SwitchCase, GetPath, ResultName, InitDiffers, EntryTarget, CastWidth}
use Rattle.ir_rules.specs.declared.rule.Rule.TheVariants.{DeclareDiffers, Limit}
use Rattle.ir_rules.specs.declared.rule.Fault.{Fault}
use Rattle.ir_rules.specs.Types.{type_defs}
use Rattle.ir_rules.specs.Scopes.{written_names, numbered_names, has_low}
use Rattle.ir_rules.specs.Entities.{same_bytes, global_names}
use Rattle.ir_rules.specs.Settings.{Setting, setting_of}
use Rattle.ir_rules.specs.Operands.{unknown_type, recursive_type, type_too_large, scalar_wanted, unknown_name, type_differs, literal_range}
use Rattle.ir_rules.specs.Blocks.{unknown_label, phi_place, phi_entries, block_open, entry_target}
use Rattle.ir_rules.specs.Calls.{unknown_callee, call_differs, return_differs, declare_differs}
use Rattle.ir_rules.specs.Paths.{switch_case, get_path, result_misplaced, cast_width}
use Rattle.ir_rules.specs.Initialisers.{init_differs}
use Rattle.ir_rules.specs.Limits.{limit}

-- ---- DoubleName: the item defines a name that is defined before in its space, or twice itself

abbrev pub is_double_type : List Item → Name → Bool
is_double_type above n = is_some (defined (type_defs above) n)

-- variables, declared and defined functions are one space, in which names of the same bytes are one
abbrev pub is_double_global : List Item → Name → Bool
is_double_global above n = list_any (same_bytes n) (global_names above)

-- parameters, labels and results of a function are one space
abbrev pub is_double_local : List (Name × Local) → List Name → Bool
is_double_local table [] = false
is_double_local table (n ∷ ns) = is_some (defined table n) || list_any (same_name n) ns || is_double_local table ns

abbrev pub outer_double : List Item → Item → Bool
outer_double above (item.TypeDef n t) = is_double_type above n
outer_double above (item.Global n c t i) = is_double_global above n
outer_double above (item.Declare n t ts) = is_double_global above n
outer_double above (item.Head n t ps) = is_double_global above n
outer_double above _ = false

abbrev pub inner_double : Setting → Item → Bool
inner_double s x = is_double_local s.before.table (numbered_names s.before.counter (written_names s.before x))

abbrev pub double_name : Setting → Item → Bool
double_name s x = outer_double s.above x || inner_double s x

-- ---- NumberOrder: a parameter, label or result is a written number below the counter

abbrev pub number_order : Setting → Item → Bool
number_order s x = has_low s.before.counter (written_names s.before x)

-- ---- all rules

-- an item breaks a rule in its setting
abbrev pub breaks_in : Setting → Item → Rule → Bool
breaks_in s x DoubleName = double_name s x
breaks_in s x NumberOrder = number_order s x
breaks_in s x UnknownType = unknown_type s x
breaks_in s x RecursiveType = recursive_type s x
breaks_in s x TypeTooLarge = type_too_large s x
breaks_in s x ScalarWanted = scalar_wanted s x
breaks_in s x UnknownName = unknown_name s x
breaks_in s x TypeDiffers = type_differs s x
breaks_in s x LiteralRange = literal_range s x
breaks_in s x UnknownLabel = unknown_label s x
breaks_in s x PhiPlace = phi_place s x
breaks_in s x PhiEntries = phi_entries s x
breaks_in s x BlockOpen = block_open s x
breaks_in s x UnknownCallee = unknown_callee s x
breaks_in s x CallDiffers = call_differs s x
breaks_in s x ReturnDiffers = return_differs s x
breaks_in s x SwitchCase = switch_case s x
breaks_in s x GetPath = get_path s x
breaks_in s x ResultName = result_misplaced x
breaks_in s x InitDiffers = init_differs s x
breaks_in s x EntryTarget = entry_target s x
breaks_in s x CastWidth = cast_width s x
breaks_in s x DeclareDiffers = declare_differs s x
breaks_in s x Limit = limit s x

-- the rules in their order
abbrev pub rules : List Rule
rules =
    DoubleName ∷ NumberOrder ∷ UnknownType ∷ RecursiveType ∷ TypeTooLarge ∷ ScalarWanted ∷ UnknownName ∷ TypeDiffers ∷ LiteralRange ∷ UnknownLabel
    ∷ PhiPlace ∷ PhiEntries ∷ BlockOpen
    ∷ UnknownCallee ∷ CallDiffers ∷ ReturnDiffers ∷ SwitchCase ∷ GetPath ∷ ResultName ∷ InitDiffers ∷ EntryTarget ∷ CastWidth ∷ DeclareDiffers ∷ Limit ∷ []

-- the number of a rule in that order, from 1
abbrev pub rule_number : Rule → ℕ
rule_number DoubleName = 1
rule_number NumberOrder = 2
rule_number UnknownType = 3
rule_number RecursiveType = 4
rule_number TypeTooLarge = 5
rule_number ScalarWanted = 6
rule_number UnknownName = 7
rule_number TypeDiffers = 8
rule_number LiteralRange = 9
rule_number UnknownLabel = 10
rule_number PhiPlace = 11
rule_number PhiEntries = 12
rule_number BlockOpen = 13
rule_number UnknownCallee = 14
rule_number CallDiffers = 15
rule_number ReturnDiffers = 16
rule_number SwitchCase = 17
rule_number GetPath = 18
rule_number ResultName = 19
rule_number InitDiffers = 20
rule_number EntryTarget = 21
rule_number CastWidth = 22
rule_number DeclareDiffers = 23
rule_number Limit = 24

-- the least rule that an item breaks in its setting
abbrev pub least_rule : Setting → Item → Option Rule
least_rule s x = find (breaks_in s x) rules

-- item i of the module breaks a rule
abbrev pub breaks : List Item → List PortSign → ℕ → Item → Rule → Bool
breaks items signs i x r = breaks_in (setting_of items signs i x) x r

-- the least rule that item i breaks
abbrev pub rule_at : List Item → List PortSign → ℕ → Item → Option Rule
rule_at items signs i x = least_rule (setting_of items signs i x) x

abbrev pub fault_at : ℕ → Option Rule → Option Fault → Option Fault
fault_at i (Some r) later = Some (record { item = i; rule = r })
fault_at i None later = later

-- the first of some items that breaks a rule, with its least rule; they are numbered from i
abbrev pub fault_from : List Item → List PortSign → ℕ → List Item → Option Fault
fault_from items signs i [] = None
fault_from items signs i (x ∷ xs) = fault_at i (rule_at items signs i x) (fault_from items signs (suc i) xs)

-- the first item of a module that breaks a rule, with its least rule; nothing where each item keeps all rules
abbrev pub fault : List Item → List PortSign → Option Fault
fault items signs = fault_from items signs 0 items
