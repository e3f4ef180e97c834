use Rattle.std.proofs.Common.{arith, ap, ◌∙◌}
use Rattle.lane_ops.specs.Mask.{mask_of}
use Rattle.lane_ops.proofs.Masks.{last_chunk}
use Rattle.lane_ops.proofs.mask.mask_at.Goals as goal

pub returns : goal.returns
returns c =
    let short = c.if-a-at-ge64.false in
    c.mask_rest.ensures ∙ ap (mask_of c.args.x) (last_chunk c.args.a.now c.args.at (omega (arith, short)))
