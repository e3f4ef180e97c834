use Rattle.std.proofs.Common.{◌≡◌, ◌≤◌, drop, length}
use Rattle.lane_ops.specs.Mask.{mask_of}
use Rattle.lane_ops.proofs.mask.mask_rest.Given as goal

abbrev pub invariant-lanes : goal.invariant-lanes
invariant-lanes l = record { within : l.at ≤ length l.a; done : l.mask ≡ mask_of l.x (drop l.at l.a) }

abbrev pub decreases-lanes : goal.decreases-lanes
decreases-lanes l = l.at
