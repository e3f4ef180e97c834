use Rattle.std.proofs.Common.{◌≡◌, ℕ, ◌<◌, ◌≤◌, length, slice_index}
use Rattle.member_sets.proofs.words.end_of.Given as goal

abbrev pub invariant-zeros : goal.invariant-zeros
invariant-zeros l = record {
  after : l.from ≤ l.end;
  within : l.end ≤ length l.words;
  zeros : (k : ℕ) → l.end ≤ k → k < length l.words → slice_index l.words k ≡ 0;
}

abbrev pub decreases-zeros : goal.decreases-zeros
decreases-zeros l = l.end
