use Rattle.ir_types.specs.Graph.{AreGrounded}
use Rattle.ir_types.proofs.cycles.grounded_of.Given as goal

abbrev pub invariant-each : goal.invariant-each
invariant-each l = AreGrounded l.edges l.grounded
