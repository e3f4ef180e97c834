use Rattle.command_words.proofs.Budgets.{budget_within}
use Rattle.command_words.proofs.laws.budgets_are_within.Goals as goal

pub returns : goal.returns
returns c = budget_within
