use Rattle.std.proofs.Common.{◌≡◌, ℕ, ◌-◌, ◌/◌, ◌<◌, ◌≤◌, ◌==◌, length, take}
use Rattle.std.specs.List.{list_any}
use Rattle.member_sets.specs.Planes.{has_bit}
use Rattle.member_sets.proofs.words.words_of.Given as goal

abbrev pub invariant-loop-m : goal.invariant-loop-m
invariant-loop-m l = record {
  size : length l.made.items ≡ l.words;
  bits : (n : ℕ) → l.first ≤ n / 64 → n / 64 - l.first < l.words → has_bit l.first l.made.items n ≡ list_any (λ k. k == n) (take l.m-index l.list);
}
