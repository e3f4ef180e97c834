use Rattle.std.proofs.Common.{◌||◌, ap, ◌∙◌}
use Rattle.std.specs.List.{list_any}
use Rattle.ir_rules.specs.Parts.{op_operands}
use Rattle.ir_scopes.specs.Kinds.{kind_in}
use Rattle.ir_operand_rules.specs.declared.operand.OperandRule.TheVariants.{TypeDiffers}
use Rattle.ir_operand_rules.specs.Each.{setting_in, operand_breaks}
use Rattle.ir_operand_rules.proofs.Splits.{differs-split}
use Rattle.ir_operand_rules.proofs.rules.type_differs.Goals as goal

pub returns : goal.returns
returns c =
    let kind = kind_in c.args.tables.now.kinds.now.names in
    let s = setting_in kind c.args.tables.now.entities.now c.args.tables.now.locals.now in
    c.either.ensures
    ∙ ap (λ b. b || c.type_not_taken.result) c.some_operand_breaks.ensures
    ∙ ap (λ b. list_any (operand_breaks s TypeDiffers) (op_operands c.args.op.now) || b) c.type_not_taken.ensures
    ∙ differs-split kind c.args.tables.now.entities.now c.args.tables.now.locals.now c.args.op.now
