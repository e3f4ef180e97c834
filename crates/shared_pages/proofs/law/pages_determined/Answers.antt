use Rattle.shared_pages.proofs.Laws.{own_determined, used_determined}
use Rattle.shared_pages.proofs.law.pages_determined.Goals as goal

pub returns-clause-own : goal.returns-clause-own
returns-clause-own c = own_determined

pub returns-clause-used : goal.returns-clause-used
returns-clause-used c = used_determined
