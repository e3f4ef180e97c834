use Rattle.std.proofs.Common.{arith}
use Rattle.suite_reduce.proofs.planes.word_of.Goals as goal

pub returns : goal.returns
returns c = record { fits = c.bits.invariant.fits; bits = λ i l. c.bits.invariant.done i (omega arith) }
