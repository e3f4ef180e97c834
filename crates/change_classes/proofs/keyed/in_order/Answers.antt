use Rattle.std.proofs.Common.{◌≡◌, length, ◌∙◌, arith}
use Rattle.change_classes.proofs.Runs.{order_is}
use Rattle.change_classes.proofs.keyed.in_order.Goals as goal

pub returns : goal.returns
returns c =
    let all : c.loop-key.key-index ≡ length c.args.keys.now = omega (arith, c.loop-key-test.false, c.loop-key.auto.key-index-end) in
    order_is c.args.keys.now c.loop-key.order.items c.sort_unstable.new.self.items (c.loop-key.invariant.long ∙ all)
    (λ k l. c.loop-key.invariant.entries k (omega (arith, all))) c.sort_unstable.ensures.permutation c.sort_unstable.ensures.sorted
