use Rattle.std.proofs.Common.{◌≡◌, ℕ, ◌≤◌, length, map}
use Rattle.member_sets.specs.Filed.{AreFiled}
use Rattle.member_sets.specs.Marks.{AreMarked}
use Rattle.member_sets.proofs.split.lists_by.Given as goal

abbrev pub invariant-loop-at : goal.invariant-loop-at
invariant-loop-at l = record {
  marked : AreMarked l.met.items l.marks.items;
  as_many : length l.lists.items ≡ length l.met.items;
  few : length l.met.items ≤ l.at;
  filed : (class_of : ℕ → ℕ) → l.classes ≡ map class_of l.members → AreFiled class_of l.members l.at l.met.items l.lists.items;
}
