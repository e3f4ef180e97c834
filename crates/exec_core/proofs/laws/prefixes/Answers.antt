use Rattle.traces.proofs.Prefixes.{steps-CountsPrefixes}
use Rattle.exec_core.proofs.laws.prefixes.Goals as goal

pub returns : goal.returns
returns g c = λ trial same. steps-CountsPrefixes trial same
