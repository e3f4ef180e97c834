use Rattle.std.proofs.Common.{ℕ, ◌<◌, ◌≤◌, [], slice_index, slice_index_or}
use Rattle.member_sets.proofs.members.place_of.Given as goal

abbrev pub invariant-loop-at : goal.invariant-loop-at
invariant-loop-at l = (k : ℕ) → k < l.at → slice_index (slice_index_or l.sets k []) 0 ≤ l.m
