-- A rule that is asked of each operand, and of each index in it, is the rule of the instruction.
use Rattle.std.proofs.Common.{◌≡◌, Bool, ◌||◌, List, None, sym, ap, ◌∙◌}
use Rattle.std.specs.List.{list_any, flat_map}
use Rattle.ir_tree.specs.declared.name.Name.{Name}
use Rattle.ir_tree.specs.declared.op.Op.{Op}
use Rattle.ir_tree.specs.declared.item.Item.TheVariants.{Instr}
use Rattle.ir_rules.specs.declared.entity.Entity.{Entity}
use Rattle.ir_rules.specs.declared.local.Local.{Local}
use Rattle.ir_rules.specs.Types.{Kinds}
use Rattle.ir_rules.specs.Parts.{Typed, op_operands, indices_of}
use Rattle.ir_rules.specs.Operands.{unknown_name, type_differs, literal_range, type_not_taken}
use Rattle.ir_operand_rules.specs.declared.operand.OperandRule.{OperandRule}
use Rattle.ir_operand_rules.specs.declared.operand.OperandRule.TheVariants.{UnknownName, TypeDiffers, LiteralRange}
use Rattle.ir_operand_rules.specs.Each.{setting_in, kinds_alone, own_breaks, index_breaks, operand_breaks}
use Rattle.ir_operand_rules.proofs.Any.{nor, moved, any-or, any-flat_map, any-none}

module _ (kind : Kinds) (entities : List (Name × Entity)) (locals : List (Name × Local)) where
  abbrev pub split : OperandRule → List Typed → Bool
  split rule vs = list_any (own_breaks (setting_in kind entities locals) rule) vs
      || list_any (index_breaks kind rule) (flat_map (λ (v : Typed). indices_of v.1) vs)

  pub each-split : (rule : OperandRule) (vs : List Typed) → list_any (operand_breaks (setting_in kind entities locals) rule) vs ≡ split rule vs
  each-split rule vs =
      any-or (own_breaks (setting_in kind entities locals) rule) (λ (v : Typed). list_any (index_breaks kind rule) (indices_of v.1)) vs
      ∙ ap (λ b. list_any (own_breaks (setting_in kind entities locals) rule) vs
      || b) (sym (any-flat_map (index_breaks kind rule) (λ (v : Typed). indices_of v.1) vs))

  pub unknown-split : (o : Op)
      → list_any (operand_breaks (setting_in kind entities locals) UnknownName) (op_operands o) ≡ unknown_name (setting_in kind entities locals) (Instr None o)
  unknown-split o =
      let vs = op_operands o in
      let own = list_any (own_breaks (setting_in kind entities locals) UnknownName) vs in
      each-split UnknownName vs ∙ ap (λ b. own || b) (any-none (flat_map (λ (v : Typed). indices_of v.1) vs)) ∙ nor own

  pub literal-split : (o : Op)
      → list_any (operand_breaks (setting_in kind entities locals) LiteralRange) (op_operands o)
      ≡ literal_range (setting_in kind entities locals) (Instr None o)
  literal-split o = each-split LiteralRange (op_operands o)

  pub differs-split : (o : Op)
      → (list_any (operand_breaks (setting_in kind entities locals) TypeDiffers) (op_operands o)
      || type_not_taken (kinds_alone kind) o) ≡ type_differs (setting_in kind entities locals) (Instr None o)
  differs-split o =
      let vs = op_operands o in
      let taken = type_not_taken (kinds_alone kind) o in
      ap (λ b. b || taken) (each-split TypeDiffers vs)
      ∙ moved (list_any (own_breaks (setting_in kind entities locals) TypeDiffers) vs)
      (list_any (index_breaks kind TypeDiffers) (flat_map (λ (v : Typed). indices_of v.1) vs)) taken
