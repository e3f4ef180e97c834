use Rattle.std.proofs.Common.{◌≡◌, ℕ, ◌<◌, length, get_or, slice_index}
use Rattle.change_classes.proofs.keyed.in_order.Given as goal

abbrev pub invariant-loop-key : goal.invariant-loop-key
invariant-loop-key l = record {
  number : l.number ≡ l.key-index;
  long : length l.order.items ≡ l.key-index;
  entries : (k : ℕ) → k < l.key-index → get_or l.order.items k (0, 0) ≡ (slice_index l.keys k, k);
}
