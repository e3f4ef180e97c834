use Rattle.reach_report.proofs.Agreeing.{same_traces}
use Rattle.reach_report.proofs.laws.unparted_traces.Goals as goal

pub returns : goal.returns
returns g c = λ trial m same p. same_traces trial same m p
