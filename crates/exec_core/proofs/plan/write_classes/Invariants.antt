use Rattle.std.proofs.Common.{◌≡◌, ℕ, ◌+◌, ◌<◌, ◌≤◌, length, slice_index}
use Rattle.exec_core.proofs.plan.write_classes.Given as goal

abbrev pub invariant-loop-at : goal.invariant-loop-at
invariant-loop-at l = record {
  size : l.top + 1 ≤ length l.table.items;
  class : (i : ℕ) → i < l.at → slice_index l.table.items (slice_index l.variants i) ≡ slice_index l.classes i;
}
