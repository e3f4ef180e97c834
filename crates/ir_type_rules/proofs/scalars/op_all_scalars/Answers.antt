use Rattle.std.proofs.Common.{Bor, List, ◌++◌, map, ap, ◌∙◌}
use Rattle.std.specs.List.{flat_map}
use Rattle.ir_tree.specs.declared.type_text.TyText.{TyText}
use Rattle.ir_tree.specs.declared.operand.Opd.{Opd}
use Rattle.ir_rules.specs.Parts.{Typed, indices_of, op_scalars, op_operands}
use Rattle.ir_type_rules.proofs.Inits.{written-types, indices-joined}
use Rattle.ir_type_rules.proofs.scalars.op_all_scalars.Goals as goal

pub returns : goal.returns
returns c =
    let op = c.args.op.now in
    let own = c.in_ok-add_op_scalars.ensures ∙ ap (λ (l : List (Bor TyText)). map (λ t. t.now) l ++ op_scalars op) c.new-list.ensures in
    let first = ap (λ (l : List (Bor TyText × Bor Opd)). map {B = Typed} (λ v. (v.0.now, v.1.now)) l) c.as_slice.ensures ∙ c.in_ok-operands.ensures in
    let second = ap (λ (l : List (Bor TyText × Bor Opd)). map {B = Typed} (λ v. (v.0.now, v.1.now)) l) c.as_slice-2.ensures ∙ c.in_ok-operands.ensures in
    let both =
    c.in_ok-add_written_types.ensures
    ∙ ap (λ (l : List TyText). l ++ map (λ v. v.0.now) c.as_slice.result.now) own
    ∙ ap (λ (l : List TyText). op_scalars op ++ l) (written-types c.as_slice.result.now (op_operands op) first) in
    c.in_ok-add_constant_indices.ensures
    ∙ ap (λ (l : List TyText). l ++ flat_map (λ v. map (λ i. i.0) (indices_of v.1.now)) c.as_slice-2.result.now) both
    ∙ ap (λ (l : List TyText). op_scalars op ++ map (λ (v : Typed). v.0) (op_operands op) ++ l)
    (indices-joined c.as_slice-2.result.now (op_operands op) second)
