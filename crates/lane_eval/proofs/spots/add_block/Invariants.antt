use Rattle.std.proofs.Common.{◌≡◌, ◌++◌, replicate}
use Rattle.lane_eval.proofs.spots.add_block.Given as goal

abbrev pub invariant-loop : goal.invariant-loop
invariant-loop l = l.spots.items ≡ l.initial.spots.items ++ replicate l.counter l.spot
