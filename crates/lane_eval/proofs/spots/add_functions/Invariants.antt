use Rattle.std.proofs.Common.{◌≡◌, ◌++◌, drop}
use Rattle.lane_eval.specs.Spots.{spots_of_functions}
use Rattle.lane_eval.proofs.spots.add_functions.Given as goal

abbrev pub invariant-loop-function : goal.invariant-loop-function
invariant-loop-function l = l.spots.items ++ spots_of_functions l.function (drop l.function l.funcs) ≡ l.initial.spots.items ++ spots_of_functions 0 l.funcs
