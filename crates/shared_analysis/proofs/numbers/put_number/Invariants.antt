use Rattle.std.proofs.Common.{◌≡◌, ◌⊎◌, ℕ, length, take, slice_index}
use Rattle.std.specs.List.{Contains}
use Rattle.shared_analysis.proofs.numbers.put_number.Given as goal

abbrev pub invariant-loop-m : goal.invariant-loop-m
invariant-loop-m l = record {
  size : length l.table.items ≡ length l.fn.table.items;
  put : (k : ℕ) → Contains (take l.m-index l.members) k → slice_index l.table.items k ≡ l.number;
  kept : (k : ℕ) → (Contains (take l.m-index l.members) k × (slice_index l.table.items k ≡ l.number)) ⊎ (slice_index l.table.items k ≡ slice_index l.fn.table.items k);
}
