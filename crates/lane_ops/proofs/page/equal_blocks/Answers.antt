use Rattle.std.proofs.Common.{arith}
use Rattle.lane_ops.proofs.Pages.{equal_more}
use Rattle.lane_ops.proofs.page.equal_blocks.Goals as goal

pub equal-preserved : goal.equal-preserved
equal-preserved c = record {
  within = omega arith;
  same = equal_more c.equal.at 32 c.args.a.now c.args.b.now c.equal.invariant.same (c.block_equal.ensures.0 c.if-block_equal.true);
}
