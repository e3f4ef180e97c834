use Rattle.std.proofs.Common.{ℕ, ◌*◌, ◌%◌, ◌^◌, replicate, bit_and, cond, refl, ap, ◌∙◌}
use Rattle.std.specs.Prelude.{nat_lt}
use Rattle.std.specs.Simd.Lanes.{zip2}
use Rattle.am_base.specs.declared.word.BinOp.TheVariants.{Shl}
use Rattle.lane_ops.specs.Lane.{lane_word}
use Rattle.lane_ops.proofs.Formulas.{left}
use Rattle.lane_ops.proofs.Vectors.{shifted, masked, few_counts}
use Rattle.lane_ops.proofs.shifts.ShiftLeftLanewise.eight.Goals as goal

pub overflow_shl-shifted : goal.overflow_shl-shifted
overflow_shl-shifted c = few_counts c.args.left c.args.right c.requires.right

pub returns : goal.returns
returns c =
    let xs = c.args.left in
    let ys = c.args.right in
    let words = c.args.self.now.0 in
    let w = words.width in
    let r = c.requires in
    let op : ℕ → ℕ → ℕ = λ x y. (x * 2 ^ y) % 2 ^ 64 in
    let whole : ℕ → ℕ → ℕ = λ x y. cond (nat_lt y 64) ((x * 2 ^ bit_and y 63) % 2 ^ 64) 0 in
    ap (λ zs. zip2 bit_and zs (replicate 8 words.greatest)) (shifted w op whole xs ys r.left r.right r.left_words r.right_words (λ x y p. refl))
    ∙ masked w whole (lane_word Shl w) xs ys words.greatest r.left r.right r.left_words r.right_words words.greatest_is (λ x y p q. left w x y)
