use Rattle.std.proofs.Common.{◌≡◌, take}
use Rattle.ir_types.specs.Graph.{some_left}
use Rattle.ir_types.proofs.flags.some_left.Given as goal

abbrev pub invariant-each : goal.invariant-each
invariant-each l = l.left ≡ some_left l.flags (take l.number-index l.list)
