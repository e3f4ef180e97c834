use Rattle.std.proofs.Common.{rules}
use Rattle.picker.proofs.Orders.{smaller_orders}
use Rattle.picker.specs.Order.{is_smaller}
use Rattle.picker.proofs.ordered.SmallestFirstPicker.pick.Goals as goal

pub returns-clause-picks : goal.returns-clause-picks
returns-clause-picks c = c.first_best.ensures.best is_smaller (search rules) smaller_orders
