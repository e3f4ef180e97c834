use Rattle.ir_text.specs.Parts.{operand_lexemes}
use Rattle.ir_text.proofs.Steps.{step, part, last}
use Rattle.ir_text.proofs.operands.put_constant.Goals as goal

pub returns : goal.returns
unfolding operand_lexemes
returns c = step _ _ _ _ _ c.in_ok-word.ensures (step _ _ _ _ _ c.in_ok-sign.ensures
    (part _ _ _ _ _ c.in_ok-put_type.ensures (step _ _ _ _ _ c.in_ok-sign-2.ensures (part _ _ _ _ _ c.in_ok-put_type-2.ensures
    (step _ _ _ _ _ c.in_ok-global.ensures (part _ _ _ _ _ c.in_ok-put_indices.ensures (last _ _ _ c.in_ok-sign-3.ensures)))))))
