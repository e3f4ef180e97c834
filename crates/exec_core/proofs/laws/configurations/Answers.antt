use Rattle.traces.proofs.Turns.{run_keeps, opening_is}
use Rattle.exec_core.proofs.laws.configurations.Goals as goal

pub returns : goal.returns
returns g c = λ trial turns same some. run_keeps trial same turns _ (opening_is trial same some)
