use Rattle.std.specs.Prelude.{nat_lt}
use Rattle.lane_ops.proofs.Vectors.{tested}
use Rattle.lane_ops.proofs.order.BelowLanewise.eight.Goals as goal

pub returns : goal.returns
returns c =
    let test = c.args.self.now in
    let r = c.requires in
    tested test.width nat_lt c.args.left c.args.right test.yes test.no r.left r.right r.left_words r.right_words
