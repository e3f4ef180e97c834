use Rattle.std.proofs.Common.{◌+◌, arith}
use Rattle.lane_ops.proofs.Masks.{mask_below, mask_joined}
use Rattle.lane_ops.proofs.mask.mask_half.Goals as goal

pub overflow_mul-result : goal.overflow_mul-result
overflow_mul-result c = omega (arith, mask_below c.args.x c.args.a.now (c.args.at + 16) 16 (omega (arith, c.requires)), c.mask_sixteen-high.ensures)

pub overflow_add-result : goal.overflow_add-result
overflow_add-result c =
    let one = mask_below c.args.x c.args.a.now c.args.at 16 (omega (arith, c.requires)) in
    let two = mask_below c.args.x c.args.a.now (c.args.at + 16) 16 (omega (arith, c.requires)) in
    omega (arith, one, two, c.mask_sixteen-low.ensures, c.mask_sixteen-high.ensures)

pub returns : goal.returns
returns c =
    let joined = mask_joined c.args.x c.args.a.now c.args.at 16 16 (omega (arith, c.requires)) in
    omega (arith, joined, c.mask_sixteen-low.ensures, c.mask_sixteen-high.ensures)
