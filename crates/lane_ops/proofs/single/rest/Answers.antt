use Rattle.lane_ops.proofs.Loops.{lane_more}
use Rattle.std.proofs.Common.{arith}
use Rattle.lane_ops.proofs.single.rest.Goals as goal

pub loop-i-preserved : goal.loop-i-preserved
loop-i-preserved g c =
    lane_more (g.K.Single.lane c.args.kernel.now) c.loop-i.i _ c.args.a.now c.args.b.now c.loop-i.out c.loop-i-test.true c.requires.right
    (omega arith) c.one.ensures c.loop-i.invariant
