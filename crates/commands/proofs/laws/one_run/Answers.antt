use Rattle.commands.proofs.OneText.{text-one, rise-one}
use Rattle.commands.proofs.laws.one_run.Goals as goal

pub returns-clause-text : goal.returns-clause-text
returns-clause-text c = text-one

pub returns-clause-rise : goal.returns-clause-rise
returns-clause-rise c = rise-one
