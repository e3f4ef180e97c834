use Rattle.std.proofs.Common.{◌≡◌, ℕ, false}
use Rattle.type_table.specs.Table.{Keeps}
use Rattle.ir_types.specs.Graph.{held}
use Rattle.ir_types.specs.Named.{AreExact, Left}
use Rattle.ir_types.proofs.level.named_of.Given as goal

abbrev pub invariant-passes : goal.invariant-passes
invariant-passes l = record {
  kept : Keeps l.initial.table l.table;
  exact : AreExact l.graph l.naming l.table;
  left : (d : ℕ) → held l.naming.done d ≡ false → Left l.graph.edges.now l.graph.recursive.now l._pass d;
}
