use Rattle.ir_sound.proofs.Starts.{starts-within}
use Rattle.ir_sound.proofs.laws.starts_are_within.Goals as goal

pub returns : goal.returns
returns c = starts-within
