use Rattle.ir_text.specs.Parts as parts
use Rattle.ir_text.proofs.Steps.{commas_turn}
use Rattle.ir_text.proofs.lists.put_parameters.Goals as goal

pub each-preserved : goal.each-preserved
each-preserved c = commas_turn parts.parameter c.args.parameters.now c.each.i c.index-parameters-i.result _ _ _ _ c.each-test.true c.index-parameters-i.is
    c.each.invariant c.in_ok-put_comma.ensures c.in_ok-put_parameter.ensures
