use Rattle.std.proofs.Common.{◌≡◌, ℕ, ◌<◌, Some, true, false, slice_get}
use Rattle.type_table.specs.Table.{Keeps}
use Rattle.ir_types.specs.Graph.{next_of, held, some_left}
use Rattle.ir_types.specs.Named.{AreExact}
use Rattle.ir_types.proofs.level.number_all.Given as goal

abbrev pub invariant-each : goal.invariant-each
invariant-each l = record {
  kept : Keeps l.initial.table l.table;
  exact : AreExact l.graph l.naming l.table;
  grows : (c : ℕ) → held l.initial.naming.done c ≡ true → held l.naming.done c ≡ true;
  tried : (j d : ℕ) → j < l.d-index → slice_get l.order j ≡ Some d → held l.naming.done d ≡ false
      → some_left l.initial.naming.done (next_of l.graph.edges.now d) ≡ true;
}
