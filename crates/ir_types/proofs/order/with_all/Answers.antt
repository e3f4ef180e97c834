use Rattle.ir_types.proofs.Chains.{stands-more}
use Rattle.ir_types.proofs.order.with_all.Goals as goal

pub each-preserved : goal.each-preserved
each-preserved c = λ d h. stands-more c.each.order c.push.new.self c.each.d d c.in_ok-push.ensures.ok c.each.invariant h
