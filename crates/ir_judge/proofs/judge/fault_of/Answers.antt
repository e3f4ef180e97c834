use Rattle.std.proofs.Common.{◌≡◌, List, IfOk, subst}
use Rattle.code_form.specs.declared.sign.PortSign.{PortSign}
use Rattle.ir_rules.specs.Rules.{fault}
use Rattle.ir_judge.proofs.judge.fault_of.Goals as goal

pub returns : goal.returns
returns c =
    subst (λ (signs : List PortSign). IfOk c.fault_by.result (λ found. found ≡ fault c.args.items.now signs)) c.in_ok-named.ensures c.fault_by.ensures
