use Rattle.std.proofs.Common.{◌/◌, ◌^◌}
use Rattle.am_base.specs.declared.word.BinOp.TheVariants.{LShr}
use Rattle.lane_ops.specs.Lane.{lane_word}
use Rattle.lane_ops.proofs.Formulas.{right}
use Rattle.lane_ops.proofs.Vectors.{shifted, few_counts}
use Rattle.lane_ops.proofs.shifts.ShiftRightLanewise.eight.Goals as goal

pub overflow_shr-shifted : goal.overflow_shr-shifted
overflow_shr-shifted c = few_counts c.args.left c.args.right c.requires.right

pub returns : goal.returns
returns c =
    let w = c.args.self.now.0 in
    let r = c.requires in
    shifted w (λ x y. x / 2 ^ y) (lane_word LShr w) c.args.left c.args.right r.left r.right r.left_words r.right_words (λ x y p. right w x y p)
