use Rattle.std.proofs.Common.{◌≡◌, ℕ, ◌+◌, ◌*◌, ◌<◌, ◌≤◌, length, slice_index}
use Rattle.member_sets.specs.Planes.{upto}
use Rattle.member_sets.proofs.plane.sums_of.Given as goal

abbrev pub invariant-loop-word : goal.invariant-loop-word
invariant-loop-word l = record {
  few : l.len ≤ 64 * l.word-index;
  as_many : length l.sums.items ≡ l.word-index;
  len : (first : ℕ) → l.len ≡ length (upto first l.words (64 * (first + l.word-index)));
  sums : (first j : ℕ) → j < l.word-index → slice_index l.sums.items j ≡ length (upto first l.words (64 * (first + j)));
}
