use Rattle.std.proofs.Common.{Bor, List, map, ap, ◌∙◌}
use Rattle.ir_tree.specs.declared.type_text.TyText.{TyText}
use Rattle.ir_tree.specs.declared.operand.Opd.{Opd}
use Rattle.ir_rules.specs.Parts.{Typed, operands_of}
use Rattle.ir_scopes.specs.Kinds.{kind_in}
use Rattle.ir_operand_rules.specs.Each.{setting_in, operand_breaks}
use Rattle.ir_type_rules.proofs.Loops.{any-typed}
use Rattle.ir_type_rules.proofs.initial.operand_breaks_of.Goals as goal

pub returns : goal.returns
returns c =
    let s = setting_in (kind_in c.args.tables.now.kinds.now.names) c.args.tables.now.entities.now c.args.tables.now.locals.now in
    c.some_breaks.ensures
    ∙ any-typed (operand_breaks s c.args.rule) c.as_slice.result.now (operands_of c.args.item.now)
    (ap (λ (l : List (Bor TyText × Bor Opd)). map {B = Typed} (λ v. (v.0.now, v.1.now)) l) c.as_slice.ensures ∙ c.in_ok-operands.ensures)
