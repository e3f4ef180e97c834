use Rattle.std.proofs.Common.{◌≤◌, ◌+◌, length, arith}
use Rattle.lane_ops.proofs.Loops.{block_more}
use Rattle.lane_ops.proofs.blocks.blocks.Goals as goal

pub eights-preserved : goal.eights-preserved
eights-preserved g c =
    let room : c.eights.at + 8 ≤ length c.args.a.now = omega arith in
    record {
      within = room;
      done = block_more (g.K.Lanewise.lane c.args.kernel.now) c.eights.at c.args.a.now c.args.b.now c.eights.out c.block.new.out room c.requires.right
          (omega arith) c.block.ensures c.eights.invariant.done;
    }
