use Rattle.std.proofs.Common.{Bor, List, ◌++◌, map, ap, ◌∙◌}
use Rattle.std.specs.List.{flat_map}
use Rattle.ir_tree.specs.declared.type_text.TyText.{TyText}
use Rattle.ir_tree.specs.declared.operand.Opd.{Opd}
use Rattle.ir_rules.specs.Parts.{Typed, indices_of, operands_of}
use Rattle.ir_type_rules.proofs.Inits.{indices-joined}
use Rattle.ir_type_rules.proofs.scalars.index_scalars.Goals as goal

pub returns : goal.returns
returns c =
    let operands = ap (λ (l : List (Bor TyText × Bor Opd)). map {B = Typed} (λ v. (v.0.now, v.1.now)) l) c.as_slice.ensures ∙ c.in_ok-operands.ensures in
    c.in_ok-add_constant_indices.ensures
    ∙ ap (λ (l : List (Bor TyText)). map (λ t. t.now) l ++ flat_map (λ v. map (λ i. i.0) (indices_of v.1.now)) c.as_slice.result.now) c.new-list.ensures
    ∙ indices-joined c.as_slice.result.now (operands_of c.args.item.now) operands
