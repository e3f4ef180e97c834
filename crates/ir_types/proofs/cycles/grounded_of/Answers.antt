use Rattle.ir_types.proofs.Grounds.{none-grounded}
use Rattle.ir_types.proofs.cycles.grounded_of.Goals as goal

pub each-init : goal.each-init
each-init c = none-grounded c.args.edges.now c.in_ok-grounded.grounded c.in_ok-grounded.ensures
