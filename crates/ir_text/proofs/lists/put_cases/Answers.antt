use Rattle.ir_text.specs.Parts as parts
use Rattle.ir_text.proofs.Steps.{joined_turn}
use Rattle.ir_text.proofs.lists.put_cases.Goals as goal

pub each-preserved : goal.each-preserved
each-preserved c = joined_turn parts.case c.args.cases.now c.each.case-index c.case-item.result _ _ _ c.each-test.true c.case-item.is c.each.invariant
    c.in_ok-put_case.ensures
