use Rattle.std.proofs.Common.{◌≡◌, List, IfOk, map, ap, sym, subst, ◌∙◌}
use Rattle.ir_tree.specs.declared.name.Name.{Name}
use Rattle.ir_tree.specs.declared.operand.Opd.{Opd}
use Rattle.ir_rules.specs.Parts.{Typed, op_operands}
use Rattle.ir_type_rules.proofs.operands.op_operands.Goals as goal

pub returns-in-Phi : goal.returns-in-Phi
returns-in-Phi c =
    subst (λ (l : List Typed). IfOk c.of_entries.result (λ list. map {B = Typed} (λ v. (v.0.now, v.1.now)) list ≡ l))
    (ap (λ (es : List (Opd × Name)). map {B = Typed} (λ e. (c.in-Phi.t, e.0)) es) c.as_slice-in-Phi.ensures ∙ ap op_operands (sym c.in-Phi.is))
    c.of_entries.ensures
