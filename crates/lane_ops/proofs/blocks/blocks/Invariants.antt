use Rattle.std.proofs.Common.{◌≡◌, ◌-◌, ◌≤◌, length, take}
use Rattle.std.specs.Simd.Lanes.{zip2}
use Rattle.lane_ops.proofs.blocks.blocks.Given as goal

abbrev pub invariant-eights : goal.invariant-eights
invariant-eights g l = record { within : l.at ≤ length l.a; done : take l.at l.out ≡ zip2 (g.K.Lanewise.lane l.kernel) (take l.at l.a) (take l.at l.b) }

abbrev pub decreases-eights : goal.decreases-eights
decreases-eights g l = length l.a - l.at
