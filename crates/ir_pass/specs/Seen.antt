-- What the items before an item define in the module, and how many there are.
use Rattle.std.specs.Prelude.{ℕ, ◌+◌, nat_lt, nat_le, Bool, true, false, ◌||◌, ◌&&◌, List, [], fold, is_some}
use Rattle.am_base.specs.declared.limits.TheConstants.{MAX_FUNCTIONS, MAX_TYPE_DEFINITIONS, MAX_INSTRUCTIONS, MAX_FUNCTION_REGISTERS}
use Rattle.ir_tree.specs.declared.name.Name.{Name}
use Rattle.ir_tree.specs.declared.name.Name.TheVariants.{Text}
use Rattle.ir_tree.specs.declared.item.Item.{Item}
use Rattle.ir_tree.specs.declared.item.Item.TheVariants as item
use Rattle.ir_names.specs.Names.{defined, with_first}
use Rattle.ir_rules.specs.Entities.{name_bytes}
use Rattle.ir_rules.specs.Limits.{is_full}
use Rattle.ir_pass.specs.declared.seen.Seen.{Seen}

abbrev pub no_seen : Seen
no_seen = record { types = []; globals = []; definitions = 0; functions = 0; instructions = 0 }

-- names of the same bytes are one
abbrev pub text_name : Name → Name
text_name n = Text (name_bytes n)

abbrev pub with_global : Seen → Name → Seen
with_global s n = record s { globals = with_first s.globals (text_name n, tt) }

abbrev pub with_function : Seen → Seen
with_function s = record s { functions = s.functions + 1 }

abbrev pub with_seen : Seen → Item → Seen
with_seen s (item.TypeDef n t) = record s { types = with_first s.types (n, tt); definitions = s.definitions + 1 }
with_seen s (item.Global n c t i) = with_global s n
with_seen s (item.Declare n t ts) = with_global s n
with_seen s (item.Head n t ps) = with_function (with_global s n)
with_seen s (item.Instr r o) = record s { instructions = s.instructions + 1 }
with_seen s _ = s

abbrev pub seen_of : List Item → Seen
seen_of items = fold with_seen no_seen items

-- ---- what the rules ask

abbrev pub has_global : Seen → Name → Bool
has_global s n = is_some (defined s.globals (text_name n))

abbrev pub outer_double_in : Seen → Item → Bool
outer_double_in s (item.TypeDef n t) = is_some (defined s.types n)
outer_double_in s (item.Global n c t i) = has_global s n
outer_double_in s (item.Declare n t ts) = has_global s n
outer_double_in s (item.Head n t ps) = has_global s n
outer_double_in s _ = false

abbrev pub more_registers : ℕ → ℕ → Bool
more_registers before after = nat_lt before after && nat_lt MAX_FUNCTION_REGISTERS after

abbrev pub limit_in : Seen → ℕ → ℕ → Bool → Item → Bool
limit_in s before after full (item.TypeDef n t) = is_full MAX_TYPE_DEFINITIONS s.definitions
limit_in s before after full (item.Head n t ps) = is_full MAX_FUNCTIONS s.functions || more_registers before after
limit_in s before after full (item.Instr r o) = is_full MAX_INSTRUCTIONS s.instructions || more_registers before after
limit_in s before after full (item.Global n c t i) = full
limit_in s before after full _ = false
