use Rattle.ir_text.specs.Parts.{op_lexemes}
use Rattle.ir_text.proofs.Steps.{step, part, last}
use Rattle.ir_text.proofs.ops.put_switch.Goals as goal

pub returns : goal.returns
unfolding op_lexemes
returns c = step _ _ _ _ _ c.in_ok-word.ensures (part _ _ _ _ _ c.in_ok-put_typed.ensures
    (step _ _ _ _ _ c.in_ok-sign.ensures (part _ _ _ _ _ c.in_ok-put_target.ensures
    (step _ _ _ _ _ c.in_ok-sign-2.ensures (part _ _ _ _ _ c.in_ok-put_cases.ensures (last _ _ _ c.in_ok-sign-3.ensures))))))
