use Rattle.std.proofs.Common.{◌≡◌, ℕ, ◌<◌, length, slice_index_or, []}
use Rattle.suite_reduce.specs.Planes.{IsPlane}
use Rattle.suite_reduce.proofs.planes.planes_of.Given as goal

abbrev pub invariant-all : goal.invariant-all
invariant-all l = record {
  count : length l.planes.items ≡ l.block;
  each : (k : ℕ) → k < l.block → IsPlane l.matrix k (slice_index_or l.planes.items k []);
}
