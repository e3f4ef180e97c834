use Rattle.std.proofs.Common.{not, sym, ap, ◌∙◌}
use Rattle.std.specs.Option.{option_copied}
use Rattle.ir_call_rules.specs.Sources.{differs_from_first}
use Rattle.ir_call_rules.proofs.Operands.{operand-same}
use Rattle.ir_call_rules.proofs.phis.differs.Goals as goal

pub returns-in-Some : goal.returns-in-Some
returns-in-Some c =
    ap not (operand-same c.in-Some.first.now c.args.entry.now.0 c.same.result c.same.ensures.0 c.same.ensures.1)
    ∙ ap (λ o. differs_from_first o c.args.entry.now.0) (sym (ap option_copied c.in-Some.is) ∙ c.get.ensures)
