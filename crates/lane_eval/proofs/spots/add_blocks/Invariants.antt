use Rattle.std.proofs.Common.{◌≡◌, ◌++◌, drop}
use Rattle.lane_eval.specs.Spots.{spots_of_blocks}
use Rattle.lane_eval.proofs.spots.add_blocks.Given as goal

abbrev pub invariant-loop-block : goal.invariant-loop-block
invariant-loop-block l = l.spots.items ++ spots_of_blocks l.function l.block (drop l.block l.blocks) ≡ l.initial.spots.items ++ spots_of_blocks l.function 0 l.blocks
