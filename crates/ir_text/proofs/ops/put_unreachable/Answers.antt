use Rattle.ir_text.specs.Parts.{op_lexemes}
use Rattle.ir_text.proofs.Steps.{last}
use Rattle.ir_text.proofs.ops.put_unreachable.Goals as goal

pub returns : goal.returns
unfolding op_lexemes
returns c = last _ _ _ c.in_ok-word.ensures
