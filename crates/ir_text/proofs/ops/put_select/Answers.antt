use Rattle.ir_text.specs.Parts.{op_lexemes}
use Rattle.ir_text.proofs.Steps.{step, part}
use Rattle.ir_text.proofs.ops.put_select.Goals as goal

pub returns : goal.returns
unfolding op_lexemes
returns c = step _ _ _ _ _ c.in_ok-word.ensures (part _ _ _ _ _ c.in_ok-put_typed.ensures
    (step _ _ _ _ _ c.in_ok-sign.ensures (part _ _ _ _ _ c.in_ok-put_typed-2.ensures (step _ _ _ _ _ c.in_ok-sign-2.ensures c.in_ok-put_typed-3.ensures))))
