use Rattle.machine_form.proofs.SameTests.{machine_same}
use Rattle.change_set.proofs.law.changes_compared.Goals as goal

pub returns : goal.returns
returns c = machine_same
