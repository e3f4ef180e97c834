use Rattle.commands.proofs.OneGroups.{groups-one, rise-one}
use Rattle.commands.proofs.laws.one_grouping.Goals as goal

pub returns-clause-text : goal.returns-clause-text
returns-clause-text c = groups-one

pub returns-clause-rise : goal.returns-clause-rise
returns-clause-rise c = rise-one
