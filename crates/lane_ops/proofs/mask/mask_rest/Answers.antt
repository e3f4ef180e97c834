use Rattle.std.proofs.Common.{arith, ◌-◌, get_or}
use Rattle.std.specs.Prelude.{nat_eq}
use Rattle.lane_ops.proofs.Masks.{mask_fits, byte_small}
use Rattle.lane_ops.proofs.mask.mask_rest.Goals as goal

pub overflow_mul-mask : goal.overflow_mul-mask
overflow_mul-mask c =
    let fits = mask_fits c.args.x c.args.a.now c.lanes.at c.requires c.lanes-test.true in
    let is = c.lanes.invariant.done in
    omega (arith, fits, is)

pub overflow_add-mask : goal.overflow_add-mask
overflow_add-mask c =
    let fits = mask_fits c.args.x c.args.a.now c.lanes.at c.requires c.lanes-test.true in
    let is = c.lanes.invariant.done in
    let bit = byte_small (nat_eq (get_or c.args.a.now (c.lanes.at - 1) 0) c.args.x) in
    omega (arith, fits, is, bit, c.from.ensures)
