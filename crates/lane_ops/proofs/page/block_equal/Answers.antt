use Rattle.std.specs.Simd.Lanes.{chunk}
use Rattle.std.proofs.lemmas.Simd.{length-chunk}
use Rattle.lane_ops.proofs.Pages.{equal_lanes}
use Rattle.lane_ops.proofs.page.block_equal.Goals as goal

pub returns : goal.returns
returns c =
    let at = c.args.at in
    let a = c.args.a.now in
    let b = c.args.b.now in
    equal_lanes (chunk at 32 a) (chunk at 32 b) (length-chunk at 32 a c.requires.left) (length-chunk at 32 b c.requires.right)
