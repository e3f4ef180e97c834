use Rattle.std.proofs.Common.{rules}
use Rattle.picker.proofs.Orders.{shallower_orders}
use Rattle.picker.specs.Order.{is_shallower}
use Rattle.picker.proofs.ordered.BreadthFirstPicker.pick.Goals as goal

pub returns-clause-picks : goal.returns-clause-picks
returns-clause-picks c = c.first_best.ensures.best is_shallower (search rules) shallower_orders
