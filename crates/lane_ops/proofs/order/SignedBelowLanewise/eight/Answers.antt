use Rattle.std.proofs.Common.{◌≡◌, ℕ, ◌+◌, ◌-◌, ◌%◌, ◌^◌, length, bit_and, Bool, cond, ap, sym, ◌∙◌}
use Rattle.std.specs.Prelude.{nat_lt}
use Rattle.std.specs.Int.RustNames.{int_lt}
use Rattle.std.proofs.lemmas.Simd.{zip2_of_maps}
use Rattle.am_base.specs.Word.{bits_of, signed}
use Rattle.lane_ops.proofs.Formulas.{cut, signed_order}
use Rattle.lane_ops.proofs.Vectors.{pairs, lefts, rights, splats, chosen_by, lanes_are}
use Rattle.lane_ops.proofs.order.SignedBelowLanewise.eight.Goals as goal

pub returns : goal.returns
returns c =
    let xs = c.args.left in
    let ys = c.args.right in
    let test = c.args.self.now in
    let w = test.words.width in
    let h = test.words.half in
    let m = test.words.greatest in
    let r = c.requires in
    let e : length xs ≡ length ys = r.left ∙ sym r.right in
    let vs = pairs xs ys in
    let raise : ℕ → ℕ = λ x. bit_and ((x + h) % 2 ^ 64) m in
    let add : ℕ → ℕ → ℕ = λ x y. (x + y) % 2 ^ 64 in
    let is : (x : ℕ) → bit_and ((x + h) % 2 ^ 64) m ≡ (x + 2 ^ (bits_of w - 1)) % 2 ^ bits_of w = λ x.
    ap (bit_and ((x + h) % 2 ^ 64)) test.words.greatest_is ∙ cut w (x + h) ∙ ap (λ n. (x + n) % 2 ^ bits_of w) test.words.half_is in
    let halves = splats xs ys 8 h r.left e in
    let greatest = splats xs ys 8 m r.left e in
    let left = zip2_of_maps bit_and (λ v. (v.0 + h) % 2 ^ 64) (λ _. m) vs (zip2_of_maps add (λ v. v.0) (λ _. h) vs (lefts xs ys e) halves) greatest in
    let right = zip2_of_maps bit_and (λ v. (v.1 + h) % 2 ^ 64) (λ _. m) vs (zip2_of_maps add (λ v. v.1) (λ _. h) vs (rights xs ys e) halves) greatest in
    chosen_by nat_lt (λ v. bit_and ((v.0 + h) % 2 ^ 64) m) (λ v. bit_and ((v.1 + h) % 2 ^ 64) m) (λ _. test.yes) (λ _. test.no) vs _ _ _ _ left right
    (splats xs ys 8 test.yes r.left e) (splats xs ys 8 test.no r.left e)
    ∙ lanes_are w (λ x y. cond (int_lt (signed w x) (signed w y)) test.yes test.no) _ xs ys e r.left_words r.right_words (λ x y p q.
    ap (λ n. cond (nat_lt n (bit_and ((y + h) % 2 ^ 64) m)) test.yes test.no) (is x)
    ∙ ap (λ n. cond (nat_lt ((x + 2 ^ (bits_of w - 1)) % 2 ^ bits_of w) n) test.yes test.no) (is y)
    ∙ ap (λ (b : Bool). cond b test.yes test.no) (signed_order w x y p q))
