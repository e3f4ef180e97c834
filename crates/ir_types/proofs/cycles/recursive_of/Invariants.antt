use Rattle.std.proofs.Common.{◌≡◌, ℕ, false, length, slice_get, unwrap_or, ◌<◌}
use Rattle.ir_types.specs.Graph.{reaches}
use Rattle.ir_types.proofs.cycles.recursive_of.Given as goal

abbrev pub invariant-each : goal.invariant-each
invariant-each l = record {
  long : length l.flags ≡ l.d;
  exact : (d : ℕ) → d < l.d → unwrap_or (slice_get l.flags d) false ≡ reaches l.edges (length l.edges) d d;
}
