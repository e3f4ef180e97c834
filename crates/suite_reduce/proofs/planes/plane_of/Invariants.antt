use Rattle.std.proofs.Common.{◌≡◌, ℕ, ◌*◌, ◌<◌, length, slice_index}
use Rattle.suite_reduce.specs.Planes.{IsWord}
use Rattle.suite_reduce.proofs.planes.plane_of.Given as goal

abbrev pub invariant-mutants : goal.invariant-mutants
invariant-mutants l = record {
  count : length l.plane.items ≡ l.m;
  each : (k : ℕ) → k < l.m → IsWord l.matrix k (64 * l.block) (slice_index l.plane.items k);
}
