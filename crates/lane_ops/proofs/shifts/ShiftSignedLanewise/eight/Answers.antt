use Rattle.std.proofs.Common.{◌≡◌, ℕ, ◌+◌, ◌-◌, ◌/◌, ◌%◌, ◌^◌, ◌<◌, List, length, map, min, replicate, bit_and, cond, ap, sym, subst, ◌∙◌}
use Rattle.std.specs.Prelude.{nat_lt}
use Rattle.std.specs.Simd.Lanes.{zip2, Each2, sel_l, top}
use Rattle.std.proofs.lemmas.Simd.{zip2_of_maps}
use Rattle.am_base.specs.Word.{bits_of}
use Rattle.am_base.specs.declared.word.Width.{Width}
use Rattle.am_base.specs.declared.word.BinOp.TheVariants.{AShr}
use Rattle.lane_ops.specs.Lane.{lane_word}
use Rattle.lane_ops.proofs.Formulas.{least, capped_fits, shifted_signed}
use Rattle.lane_ops.proofs.Vectors.{pairs, lefts, rights, splats, chosen_by, lanes_are, counts_fit}
use Rattle.lane_ops.proofs.shifts.ShiftSignedLanewise.eight.Goals as goal

-- the counts, of which none is past the bits of the width
capped : (xs ys : List ℕ) (k : ℕ) → length xs ≡ 8 → length xs ≡ length ys
    → sel_l (map (top 63) (zip2 (λ a b. cond (nat_lt a b) (2 ^ 64 - 1) 0) ys (replicate 8 k))) ys (replicate 8 k) ≡ map (λ v. cond (nat_lt v.1 k) v.1 k)
    (pairs xs ys)
capped xs ys k long e = chosen_by nat_lt (λ v. v.1) (λ _. k) (λ v. v.1) (λ _. k) (pairs xs ys) ys _ _ _ (rights xs ys e) (splats xs ys 8 k long e)
    (rights xs ys e) (splats xs ys 8 k long e)

few : (w : Width) (zs xs ys : List ℕ) (n : ℕ) → length xs ≡ 8 → length ys ≡ 8 → n ≡ bits_of w
    → Each2 (λ (a b : ℕ). b < 64) zs (sel_l (map (top 63) (zip2 (λ a b. cond (nat_lt a b) (2 ^ 64 - 1) 0) ys (replicate 8 (n - 1)))) ys (replicate 8 (n - 1)))
few w zs xs ys n hx hy is =
    let P : List ℕ → Type 0 = λ counts. Each2 (λ (a b : ℕ). b < 64) zs counts in
    subst P (sym (capped xs ys (n - 1) hx (hx ∙ sym hy))) (counts_fit zs (pairs xs ys) (λ v. cond (nat_lt v.1 (n - 1)) v.1 (n - 1))
    (λ v. capped_fits w v.1 n is))

pub overflow_shr-result : goal.overflow_shr-result
overflow_shr-result c =
    let words = c.args.self.now.0 in
    let raised = zip2 bit_and (zip2 (λ x y. (x + y) % 2 ^ 64) c.args.left (replicate 8 words.half)) (replicate 8 words.greatest) in
    few words.width raised c.args.left c.args.right words.bits c.requires.left c.requires.right words.bits_are

pub overflow_shr-result-2 : goal.overflow_shr-result-2
overflow_shr-result-2 c =
    let words = c.args.self.now.0 in
    few words.width (replicate 8 words.half) c.args.left c.args.right words.bits c.requires.left c.requires.right words.bits_are

pub returns : goal.returns
returns c =
    let xs = c.args.left in
    let ys = c.args.right in
    let words = c.args.self.now.0 in
    let w = words.width in
    let h = words.half in
    let m = words.greatest in
    let k = words.bits - 1 in
    let r = c.requires in
    let e : length xs ≡ length ys = r.left ∙ sym r.right in
    let vs = pairs xs ys in
    let shr : ℕ → ℕ → ℕ = λ x y. x / 2 ^ y in
    let counts = capped xs ys k r.left e in
    let halves = splats xs ys 8 h r.left e in
    let greatest = splats xs ys 8 m r.left e in
    let raised = zip2_of_maps bit_and (λ v. (v.0 + h) % 2 ^ 64) (λ _. m) vs (zip2_of_maps (λ x y. (x + y) % 2 ^ 64) (λ v. v.0) (λ _. h) vs
    (lefts xs ys e) halves) greatest in
    let shifted = zip2_of_maps shr (λ v. bit_and ((v.0 + h) % 2 ^ 64) m) (λ v. cond (nat_lt v.1 k) v.1 k) vs raised counts in
    let taken = zip2_of_maps shr (λ _. h) (λ v. cond (nat_lt v.1 k) v.1 k) vs halves counts in
    let less = zip2_of_maps (λ x y. (x + (2 ^ 64 - y)) % 2 ^ 64) (λ v. bit_and ((v.0 + h) % 2 ^ 64) m / 2 ^ cond (nat_lt v.1 k) v.1 k) (λ v. h / 2 ^ cond
    (nat_lt v.1 k) v.1 k) vs shifted taken in
    zip2_of_maps bit_and (λ v. (bit_and ((v.0 + h) % 2 ^ 64) m / 2 ^ cond (nat_lt v.1 k) v.1 k + (2 ^ 64 - h / 2 ^ cond (nat_lt v.1 k) v.1 k)) % 2 ^ 64)
    (λ _. m) vs less greatest
    ∙ lanes_are w (lane_word AShr w) _ xs ys e r.left_words r.right_words (λ x y p q.
    ap (λ n. bit_and ((bit_and ((x + h) % 2 ^ 64) m / 2 ^ n + (2 ^ 64 - h / 2 ^ n)) % 2 ^ 64) m) (least y k ∙ ap (λ n. min y (n - 1)) words.bits_are)
    ∙ ap (λ n. bit_and ((bit_and ((x + n) % 2 ^ 64) m / 2 ^ min y (bits_of w - 1) + (2 ^ 64 - n / 2 ^ min y (bits_of w - 1))) % 2 ^ 64) m) words.half_is
    ∙ ap (λ n. bit_and ((bit_and ((x + 2 ^ (bits_of w - 1)) % 2 ^ 64) n / 2 ^ min y (bits_of w - 1) + (2 ^ 64 - 2 ^ (bits_of w - 1) / 2 ^ min y
    (bits_of w - 1))) % 2 ^ 64) n) words.greatest_is
    ∙ shifted_signed w x y p)
