use Rattle.std.proofs.Common.{◌≡◌, ℕ, ◌<◌, length, get_or}
use Rattle.ir_room.specs.Ends.{end_after}
use Rattle.ir_room.proofs.ends.ends_after.Given as goal

abbrev pub invariant-each : goal.invariant-each
invariant-each l = record {
  long : length l.next ≡ 8;
  ends : (k : ℕ) → k < l.r → get_or l.next k 0 ≡ end_after (get_or l.ends k 0) l.extent;
}
