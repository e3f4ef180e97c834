use Rattle.accmut_laws.proofs.Commands.{one_due}
use Rattle.accmut_laws.proofs.laws.one_end.Goals as goal

pub returns : goal.returns
returns p signs answers c held other end also agreed h k = one_due signs answers c held other agreed end also h k
