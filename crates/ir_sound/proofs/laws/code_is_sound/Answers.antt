use Rattle.ir_sound.proofs.Whole.{code-sound}
use Rattle.ir_sound.proofs.laws.code_is_sound.Goals as goal

pub returns : goal.returns
returns c = λ items signs whole faultless. code-sound items signs whole faultless
