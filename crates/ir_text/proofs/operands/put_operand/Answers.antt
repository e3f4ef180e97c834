use Rattle.std.proofs.Common.{sym, ap, ◌∙◌}
use Rattle.ir_text.specs.Parts.{operand_lexemes}
use Rattle.ir_text.specs.Printing.{with_tokens}
use Rattle.ir_text.proofs.Steps.{last}
use Rattle.ir_text.proofs.operands.put_operand.Goals as goal

pub returns-in_ok-word-in-Zero : goal.returns-in_ok-word-in-Zero
unfolding operand_lexemes
returns-in_ok-word-in-Zero c = last _ _ _ c.in_ok-word-in-Zero.ensures ∙ ap (λ x. with_tokens c.args.sheet.now (operand_lexemes x)) (sym c.in-Zero.is)
