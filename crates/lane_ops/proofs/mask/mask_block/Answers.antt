use Rattle.std.proofs.Common.{◌+◌, arith}
use Rattle.lane_ops.proofs.Masks.{mask_below, mask_joined}
use Rattle.lane_ops.proofs.mask.mask_block.Goals as goal

pub overflow_mul-result : goal.overflow_mul-result
overflow_mul-result c = omega (arith, mask_below c.args.x c.args.a.now (c.args.at + 32) 32 (omega (arith, c.requires)), c.mask_half-high.ensures)

pub overflow_add-result : goal.overflow_add-result
overflow_add-result c =
    let one = mask_below c.args.x c.args.a.now c.args.at 32 (omega (arith, c.requires)) in
    let two = mask_below c.args.x c.args.a.now (c.args.at + 32) 32 (omega (arith, c.requires)) in
    omega (arith, one, two, c.mask_half-low.ensures, c.mask_half-high.ensures)

pub returns : goal.returns
returns c =
    let joined = mask_joined c.args.x c.args.a.now c.args.at 32 32 (omega (arith, c.requires)) in
    omega (arith, joined, c.mask_half-low.ensures, c.mask_half-high.ensures)
