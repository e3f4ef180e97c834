use Rattle.std.proofs.Common.{◌∙◌, arith}
use Rattle.instruction_list.proofs.Turns.{item_turn, rises}
use Rattle.instruction_list.proofs.walk.lines_of.Goals as goal

pub each-preserved : goal.each-preserved
each-preserved c =
    let up = rises c.each.walk c.step.new.walk c.item-item.result c.in_ok-step.ensures in
    record {
      so_far = item_turn c.args.items.now c.each.item-index c.item-item.result c.each.walk c.step.new.walk c.each-test.true c.item-item.is
          c.in_ok-step.ensures ∙ c.each.invariant.so_far;
      count = omega (arith, up, c.each.invariant.count);
    }
