use Rattle.ir_types.proofs.Walking.{visits-none, visits-more}
use Rattle.ir_types.proofs.walk.visit.Goals as goal

pub each-init : goal.each-init
each-init c = visits-none c.args.walk.now c.args.list.now

pub each-preserved : goal.each-preserved
each-preserved c =
    visits-more c.args.walk.now c.each.walk c.enter.new.walk c.args.list.now c.each.number-index c.each-test.true c.each.invariant c.in_ok-enter.ensures
