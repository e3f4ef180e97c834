use Rattle.std.proofs.Common.{arith}
use Rattle.std.specs.Prelude.{nat_eq}
use Rattle.std.specs.Simd.Lanes.{chunk}
use Rattle.std.proofs.lemmas.Simd.{bitmask_splat, length-chunk}
use mir.Syntax.{w64}
use Rattle.lane_ops.proofs.mask.mask_sixteen.Goals as goal

pub returns : goal.returns
returns c = bitmask_splat w64 nat_eq (chunk c.args.at 16 c.args.a.now) 16 c.args.x (length-chunk c.args.at 16 c.args.a.now c.requires) (omega arith)
