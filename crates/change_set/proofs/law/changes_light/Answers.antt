use Rattle.machine_form.proofs.LightChanges.{machine_light}
use Rattle.change_set.proofs.law.changes_light.Goals as goal

pub returns : goal.returns
returns c = machine_light
