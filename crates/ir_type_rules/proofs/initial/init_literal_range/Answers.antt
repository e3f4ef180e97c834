use Rattle.std.proofs.Common.{Bool, ◌≡◌, IfOk, subst}
use Rattle.ir_scopes.specs.Kinds.{kind_in}
use Rattle.ir_type_rules.proofs.Globals.{literal-at}
use Rattle.ir_type_rules.proofs.initial.init_literal_range.Goals as goal

pub returns : goal.returns
returns c =
    let tables = c.args.tables.now in
    subst (λ (r : Bool). IfOk c.operand_breaks_of.result (λ b. b ≡ r))
    (literal-at (kind_in tables.kinds.now.names) tables.entities.now tables.locals.now c.args.item.now) c.operand_breaks_of.ensures
