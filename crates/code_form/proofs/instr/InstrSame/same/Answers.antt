use Rattle.std.proofs.Common.{◌∙◌, sym}
use Rattle.code_form.proofs.InstrEqual.{instr_same, equal_instrs}
use Rattle.code_form.proofs.instr.InstrSame.same.Goals as goal

pub returns : goal.returns
returns c = (λ h. instr_same _ _ (sym c.eq.ensures ∙ h), λ e. c.eq.ensures ∙ equal_instrs _ _ e)
