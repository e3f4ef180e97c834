-- The rule on limits.
use Rattle.std.specs.Prelude.{ℕ, ◌+◌, nat_lt, Bool, true, false, ◌&&◌, ◌||◌, [], ◌∷◌, ◌++◌, length, count_by}
use Rattle.am_base.specs.declared.limits.TheConstants.{MAX_FUNCTIONS, MAX_TYPE_DEFINITIONS, MAX_INSTRUCTIONS, MAX_FUNCTION_REGISTERS, MEMORY_BYTES}
use Rattle.ir_tree.specs.declared.item.Item.{Item}
use Rattle.ir_tree.specs.declared.item.Item.TheVariants as item
use Rattle.ir_rules.specs.declared.scope.Scope.{Scope}
use Rattle.ir_rules.specs.Scopes.{with_item}
use Rattle.ir_rules.specs.Settings.{Setting}
use Rattle.ir_rules.specs.Memory.{stack_base_of}

abbrev pub is_type_definition : Item → Bool
is_type_definition (item.TypeDef n t) = true
is_type_definition _ = false

abbrev pub is_function : Item → Bool
is_function (item.Head n t ps) = true
is_function _ = false

abbrev pub is_instruction : Item → Bool
is_instruction (item.Instr r o) = true
is_instruction _ = false

-- with one more there are more than a limit
abbrev pub is_full : ℕ → ℕ → Bool
is_full limit before = nat_lt limit (before + 1)

-- the item has a register, and with it there are more than a function may have
abbrev pub passes_registers : Scope → Scope → Bool
passes_registers before after = nat_lt (length before.types) (length after.types) && nat_lt MAX_FUNCTION_REGISTERS (length after.types)

-- ---- Limit: with this item a limit of functions, type definitions, instructions, registers of a function or room for the globals is passed

abbrev pub limit : Setting → Item → Bool
limit s (item.TypeDef n t) = is_full MAX_TYPE_DEFINITIONS (count_by is_type_definition s.above)
limit s (item.Head n t ps) = is_full MAX_FUNCTIONS (count_by is_function s.above) || passes_registers s.before (with_item s.kind s.before (item.Head n t ps))
limit s (item.Instr r o) = is_full MAX_INSTRUCTIONS (count_by is_instruction s.above) || passes_registers s.before (with_item s.kind s.before (item.Instr r o))
limit s (item.Global n c t i) = nat_lt MEMORY_BYTES (stack_base_of s.types (s.above ++ item.Global n c t i ∷ []))
limit s _ = false
