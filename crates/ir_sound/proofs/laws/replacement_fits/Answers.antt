use Rattle.ir_sound.proofs.Replacements.{replacement-fits}
use Rattle.ir_sound.proofs.laws.replacement_fits.Goals as goal

pub returns : goal.returns
returns c = λ m signs place x i whole faultless. replacement-fits m signs place x i whole faultless
