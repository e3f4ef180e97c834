use Rattle.std.proofs.Common.{length}
use Rattle.lane_eval.proofs.get.+scaled.Given as goal

abbrev pub decreases-scaled : goal.decreases-scaled
decreases-scaled g l = length l.indices.now
