use Rattle.ir_text.specs.Parts as parts
use Rattle.ir_text.proofs.Steps.{commas_turn}
use Rattle.ir_text.proofs.lists.put_arguments.Goals as goal

pub each-preserved : goal.each-preserved
each-preserved c = commas_turn parts.typed_operand c.args.arguments.now c.each.i c.index-arguments-i.result _ _ _ _ c.each-test.true c.index-arguments-i.is
    c.each.invariant c.in_ok-put_comma.ensures c.in_ok-put_typed.ensures
