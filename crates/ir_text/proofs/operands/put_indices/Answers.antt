use Rattle.ir_text.specs.Parts as parts
use Rattle.ir_text.proofs.Steps.{behind_turn}
use Rattle.ir_text.proofs.operands.put_indices.Goals as goal

pub each-preserved : goal.each-preserved
each-preserved c = behind_turn parts.constant_index c.args.indices.now c.each.index-index c.index-item.result _ _ _ _ c.each-test.true c.index-item.is
    c.each.invariant c.in_ok-sign.ensures c.in_ok-put_index.ensures
