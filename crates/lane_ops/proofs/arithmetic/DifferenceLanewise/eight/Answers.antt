use Rattle.std.proofs.Common.{◌+◌, ◌-◌, ◌%◌, ◌^◌}
use Rattle.am_base.specs.declared.word.BinOp.TheVariants.{Sub}
use Rattle.lane_ops.specs.Lane.{lane_word}
use Rattle.lane_ops.proofs.Formulas.{difference}
use Rattle.lane_ops.proofs.Vectors.{masked}
use Rattle.lane_ops.proofs.arithmetic.DifferenceLanewise.eight.Goals as goal

pub returns : goal.returns
returns c =
    let w = c.args.self.now.0.width in
    let r = c.requires in
    masked w (λ x y. (x + (2 ^ 64 - y)) % 2 ^ 64)
    (lane_word Sub w) c.args.left c.args.right c.args.self.now.0.greatest r.left r.right r.left_words r.right_words c.args.self.now.0.greatest_is
    (λ x y h k. difference w x y h k)
