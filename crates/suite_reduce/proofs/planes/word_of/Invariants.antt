use Rattle.std.proofs.Common.{◌≡◌, ℕ, ◌+◌, ◌*◌, ◌^◌, ◌<◌, ◌≤◌, if◌then◌else◌}
use Rattle.std.specs.Int.{bit_at}
use Rattle.suite_reduce.specs.Kills.{is_killed_by}
use Rattle.suite_reduce.proofs.planes.word_of.Given as goal

abbrev pub invariant-bits : goal.invariant-bits
invariant-bits l = record {
  fits : l.word < 2 ^ 64;
  done : (i : ℕ) → i < l.at → bit_at l.word i ≡ (if is_killed_by l.matrix l.m (64 * l.block + i) then 1 else 0);
  clear : (i : ℕ) → l.at ≤ i → bit_at l.word i ≡ 0;
}
