use Rattle.std.proofs.Common.{◌∙◌}
use Rattle.ir_scopes.specs.Kinds.{kind_in}
use Rattle.ir_operand_rules.proofs.Splits.{literal-split}
use Rattle.ir_operand_rules.proofs.rules.literal_range.Goals as goal

pub returns : goal.returns
returns c =
    c.some_operand_breaks.ensures
    ∙ literal-split (kind_in c.args.tables.now.kinds.now.names) c.args.tables.now.entities.now c.args.tables.now.locals.now c.args.op.now
