use Rattle.std.proofs.Common.{ap, ◌∙◌, ℕ, take}
use Rattle.std.specs.Prelude.{nat_lt, if◌then◌else◌}
use Rattle.std.specs.Int.RustNames.{int_lt}
use Rattle.std.specs.Simd.Lanes.{zip2}
use Rattle.am_base.specs.Word.{signed}
use Rattle.am_base.specs.declared.word.Width.{Width}
use Rattle.lane_ops.specs.Lane.{lane_compare}
use Rattle.lane_ops.proofs.Loops.{zip2_turned}
use Rattle.lane_ops.proofs.Orders.{ugt, ule, sgt, sle}
use Rattle.lane_ops.proofs.compare.compare_blocks.Goals as goal

pub returns-in-Ugt-clause-done : goal.returns-in-Ugt-clause-done
returns-in-Ugt-clause-done c =
    let test = c.new-in-Ugt.result in
    let made = c.new-in-Ugt.ensures in
    let n = c.blocks-in-Ugt.result in
    c.blocks-in-Ugt.ensures.done
    ∙ zip2_turned (λ x y. if nat_lt x y then test.yes else test.no) (lane_compare c.args.p c.args.width) (take n c.args.a.now) (take n c.args.b.now)
    (λ x y. ugt c.args.p c.args.width test.yes test.no x y c.in-Ugt.is made.yes made.no)

pub returns-in-Ule-clause-done : goal.returns-in-Ule-clause-done
returns-in-Ule-clause-done c =
    let test = c.new-in-Ule.result in
    let made = c.new-in-Ule.ensures in
    let n = c.blocks-in-Ule.result in
    c.blocks-in-Ule.ensures.done
    ∙ zip2_turned (λ x y. if nat_lt x y then test.yes else test.no) (lane_compare c.args.p c.args.width) (take n c.args.a.now) (take n c.args.b.now)
    (λ x y. ule c.args.p c.args.width test.yes test.no x y c.in-Ule.is made.yes made.no)

pub returns-in-Sgt-clause-done : goal.returns-in-Sgt-clause-done
returns-in-Sgt-clause-done c =
    let test = c.new-in-Sgt.result in
    let made = c.new-in-Sgt.ensures in
    let n = c.blocks-in-Sgt.result in
    let w = c.args.width in
    let lane : Width → ℕ → ℕ → ℕ = λ v x y. if int_lt (signed v x) (signed v y) then test.yes else test.no in
    c.blocks-in-Sgt.ensures.done
    ∙ ap (λ v. zip2 (lane v) (take n c.args.b.now) (take n c.args.a.now)) made.width
    ∙ zip2_turned (lane w) (lane_compare c.args.p w) (take n c.args.a.now) (take n c.args.b.now)
    (λ x y. sgt c.args.p w test.yes test.no x y c.in-Sgt.is made.yes made.no)

pub returns-in-Sle-clause-done : goal.returns-in-Sle-clause-done
returns-in-Sle-clause-done c =
    let test = c.new-in-Sle.result in
    let made = c.new-in-Sle.ensures in
    let n = c.blocks-in-Sle.result in
    let w = c.args.width in
    let lane : Width → ℕ → ℕ → ℕ = λ v x y. if int_lt (signed v x) (signed v y) then test.yes else test.no in
    c.blocks-in-Sle.ensures.done
    ∙ ap (λ v. zip2 (lane v) (take n c.args.b.now) (take n c.args.a.now)) made.width
    ∙ zip2_turned (lane w) (lane_compare c.args.p w) (take n c.args.a.now) (take n c.args.b.now)
    (λ x y. sle c.args.p w test.yes test.no x y c.in-Sle.is made.yes made.no)
