use Rattle.std.proofs.Common.{Bor, List, ◌∷◌, ◌++◌, map, ap, ◌∙◌}
use Rattle.std.specs.List.{flat_map}
use Rattle.ir_tree.specs.declared.type_text.TyText.{TyText}
use Rattle.ir_tree.specs.declared.operand.Opd.{Opd}
use Rattle.ir_rules.specs.Parts.{Typed, opd_types, own_types, element_types, operands_of}
use Rattle.ir_type_rules.proofs.Inits.{types-joined}
use Rattle.ir_type_rules.proofs.parts.types_of.Goals as goal

pub returns : goal.returns
returns c =
    let item = c.args.item.now in
    let own = c.in_ok-add_own_types.ensures ∙ ap (λ (l : List (Bor TyText)). map (λ t. t.now) l ++ own_types item) c.new-list.ensures in
    let both = c.in_ok-add_element_types.ensures ∙ ap (λ (l : List TyText). l ++ element_types item) own in
    let operands = ap (λ (l : List (Bor TyText × Bor Opd)). map {B = Typed} (λ v. (v.0.now, v.1.now)) l) c.as_slice.ensures ∙ c.in_ok-operands.ensures in
    c.in_ok-add_operand_types.ensures
    ∙ ap (λ (l : List TyText). l ++ flat_map (λ v. v.0.now ∷ opd_types v.1.now) c.as_slice.result.now) both
    ∙ ap (λ (l : List TyText). own_types item ++ element_types item ++ l) (types-joined c.as_slice.result.now (operands_of item) operands)
