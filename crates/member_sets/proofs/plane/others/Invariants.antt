use Rattle.std.proofs.Common.{◌≡◌, ℕ, ◌-◌, ◌/◌, ◌<◌, ◌≤◌, ◌==◌, ◌&&◌, not, length, take, slice_index}
use Rattle.std.specs.List.{list_any}
use Rattle.code_form.specs.Variant.{variant_of}
use Rattle.member_sets.specs.Members.{class_at}
use Rattle.member_sets.specs.Planes.{has_bit}
use Rattle.member_sets.proofs.plane.others.Given as goal

abbrev pub invariant-loop-m : goal.invariant-loop-m
invariant-loop-m l = record {
  size : length l.mask.items ≡ l.words;
  bits : (n : ℕ) → l.first ≤ n / 64 → n / 64 - l.first < l.words → variant_of l.table n l.place.0 < length l.class_of
      → has_bit l.first l.mask.items n ≡ (list_any (λ k. k == n) (take l.m-index l.touched)
      && not (class_at (variant_of l.table) l.place.0 l.class_of n == slice_index l.class_of 0));
}
