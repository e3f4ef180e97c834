use Rattle.std.proofs.Common.{◌≡◌, ◌-◌, ◌≤◌, length, take}
use Rattle.lane_ops.proofs.page.equal_blocks.Given as goal

abbrev pub invariant-equal : goal.invariant-equal
invariant-equal l = record { within : l.at ≤ length l.a; same : take l.at l.a ≡ take l.at l.b }

abbrev pub decreases-equal : goal.decreases-equal
decreases-equal l = length l.a - l.at
