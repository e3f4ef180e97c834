use Rattle.std.proofs.Common.{◌≡◌, ℕ, length, take, slice_index}
use Rattle.std.specs.List.{Contains, flat_map}
use Rattle.shared_analysis.specs.Ended.{IsClassOf}
use Rattle.shared_analysis.proofs.numbers.numbers_of.Given as goal

abbrev pub invariant-loop-class : goal.invariant-loop-class
invariant-loop-class l = record {
  number : l.number ≡ l.class-index;
  size : length l.numbers.items ≡ l.mutants;
  each : (m : ℕ) → Contains (flat_map (λ e. e.members) (take l.class-index l.classes)) m → IsClassOf l.classes m (slice_index l.numbers.items m);
}
