use Rattle.std.proofs.Common.{◌≡◌, false}
use Rattle.ir_types.specs.Graph.{some_left, next_of}
use Rattle.ir_types.specs.Walks.{IsWalk}
use Rattle.ir_types.proofs.walk.reaches_itself.Given as goal

abbrev pub invariant-each : goal.invariant-each
invariant-each l = record {
  walk : IsWalk l.edges l.grounded l.d l.at l.walk;
  first : some_left l.walk.marks (next_of l.edges l.d) ≡ false;
}
