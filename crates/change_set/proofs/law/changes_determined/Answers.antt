use Rattle.machine_form.proofs.ChangeLaw.{equal_changes}
use Rattle.change_set.proofs.law.changes_determined.Goals as goal

pub returns : goal.returns
returns c = equal_changes
