use Rattle.am_base.specs.Cause.{Rose}
use Rattle.accmut_laws.proofs.Commands.{one_done}
use Rattle.accmut_laws.proofs.laws.one_text.Goals as goal

pub returns-clause-text : goal.returns-clause-text
returns-clause-text p signs answers c held other old new again later text also counts rise agreed h k =
    (one_done signs answers c held other agreed (λ name. Rose (old name) (new name)) (λ name. Rose (again name) (later name)) text also counts rise h k).0

pub returns-clause-rise : goal.returns-clause-rise
returns-clause-rise p signs answers c held other old new again later text also counts rise agreed h k =
    (one_done signs answers c held other agreed (λ name. Rose (old name) (new name)) (λ name. Rose (again name) (later name)) text also counts rise h k).1
