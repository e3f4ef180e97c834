use Rattle.std.proofs.Common.{rules}
use Rattle.picker.proofs.Orders.{deeper_orders}
use Rattle.picker.specs.Order.{is_deeper}
use Rattle.picker.proofs.ordered.DepthFirstPicker.pick.Goals as goal

pub returns-clause-picks : goal.returns-clause-picks
returns-clause-picks c = c.first_best.ensures.best is_deeper (search rules) deeper_orders
