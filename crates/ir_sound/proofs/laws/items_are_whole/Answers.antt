use Rattle.ir_sound.proofs.Whole.{items-whole}
use Rattle.ir_sound.proofs.laws.items_are_whole.Goals as goal

pub returns : goal.returns
returns c = items-whole
