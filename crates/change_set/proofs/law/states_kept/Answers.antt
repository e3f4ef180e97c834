use Rattle.machine_form.proofs.StartStates.{states_begin}
use Rattle.machine_form.proofs.Kept.{states_stay}
use Rattle.change_set.proofs.law.states_kept.Goals as goal

pub returns : goal.returns
returns c = record { start = states_begin; step = states_stay }
