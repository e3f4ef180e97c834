-- A rule that is asked of each operand of an item, and of each index in it, is the rule of the item.
use Rattle.std.proofs.Common.{◌≡◌, ℤ, Bool, ◌||◌, List, [], ◌∷◌, map, refl, ap, ◌∙◌}
use Rattle.std.specs.List.{list_any, flat_map}
use Rattle.ir_tree.specs.declared.name.Name.{Name}
use Rattle.ir_tree.specs.declared.type_text.TyText.{TyText}
use Rattle.ir_tree.specs.declared.item.Item.{Item}
use Rattle.ir_rules.specs.declared.entity.Entity.{Entity}
use Rattle.ir_rules.specs.declared.local.Local.{Local}
use Rattle.ir_rules.specs.Types.{Kinds}
use Rattle.ir_rules.specs.Parts.{Typed, operands_of, indices_of}
use Rattle.ir_rules.specs.Operands.{unknown_name, literal_range}
use Rattle.ir_operand_rules.specs.declared.operand.OperandRule.TheVariants.{UnknownName, LiteralRange}
use Rattle.ir_operand_rules.specs.Each.{setting_in, own_breaks, operand_breaks}
use Rattle.ir_operand_rules.proofs.Any.{nor, any-none}
use Rattle.ir_operand_rules.proofs.Splits.{each-split}

module _ (kind : Kinds) (entities : List (Name × Entity)) (locals : List (Name × Local)) where
  pub unknown-at : (x : Item)
      → list_any (operand_breaks (setting_in kind entities locals) UnknownName) (operands_of x) ≡ unknown_name (setting_in kind entities locals) x
  unknown-at x =
      let vs = operands_of x in
      let own = list_any (own_breaks (setting_in kind entities locals) UnknownName) vs in
      each-split kind entities locals UnknownName vs ∙ ap (λ b. own || b) (any-none (flat_map (λ (v : Typed). indices_of v.1) vs)) ∙ nor own

  pub literal-at : (x : Item)
      → list_any (operand_breaks (setting_in kind entities locals) LiteralRange) (operands_of x) ≡ literal_range (setting_in kind entities locals) x
  literal-at x = each-split kind entities locals LiteralRange (operands_of x)

-- a test of the types of indices
pub any-firsts : (p : TyText → Bool) (is : List (TyText × ℤ)) → list_any p (map (λ (i : TyText × ℤ). i.0) is) ≡ list_any (λ (i : TyText × ℤ). p i.0) is
any-firsts p [] = refl
any-firsts p (i ∷ is) = ap (λ b. p i.0 || b) (any-firsts p is)
