use Rattle.ir_rules.proofs.Passing.{again-exact, low-exact}
use Rattle.ir_rules.proofs.laws.names_in_passing.Goals as goal

pub returns-clause-again : goal.returns-clause-again
returns-clause-again c = again-exact

pub returns-clause-low : goal.returns-clause-low
returns-clause-low c = low-exact
