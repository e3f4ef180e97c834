use Rattle.commands.proofs.ClassLemmas.{groups_at}
use Rattle.commands.proofs.laws.groups_are_classes.Goals as goal

pub returns : goal.returns
returns c = groups_at c.groups.ensures
