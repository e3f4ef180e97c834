use Rattle.std.proofs.Common.{◌≡◌, ◌<◌, ◌*◌, ℕ, get_or}
use Rattle.std.specs.Simd.Lanes.{chunk}
use Rattle.lane_ops.specs.Mask.{mask_of}
use Rattle.lane_ops.proofs.mask.write_masks.Given as goal

abbrev pub invariant-loop-j : goal.invariant-loop-j
invariant-loop-j l = (j : ℕ) → j < l.j → get_or l.out j 0 ≡ mask_of l.x (chunk (64 * j) 64 l.a)
