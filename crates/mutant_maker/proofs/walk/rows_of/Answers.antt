use Rattle.std.proofs.Common.{◌∙◌, arith}
use Rattle.ir_rules.specs.Types.{kind_of}
use Rattle.mutant_maker.proofs.Turns.{item_turn, rises}
use Rattle.mutant_maker.proofs.walk.rows_of.Goals as goal

pub each-preserved : goal.each-preserved
each-preserved c =
    let kind = kind_of c.args.types.now.defs in
    let instrs = c.args.instrs.now in
    let up = rises kind instrs c.each.walk c.step.new.walk c.item-item.result c.in_ok-step.ensures in
    record {
      so_far = item_turn kind instrs c.args.items.now c.each.item-index c.item-item.result c.each.walk c.step.new.walk c.each-test.true c.item-item.is
          c.in_ok-step.ensures ∙ c.each.invariant.so_far;
      instruction = omega (arith, up.0, c.each.invariant.instruction);
      place = omega (arith, up.1, c.each.invariant.place);
    }
