use Rattle.shared_pages.proofs.Laws.{alone_when, own_when}
use Rattle.shared_pages.proofs.law.own_pages_alone.Goals as goal

pub returns-clause-own : goal.returns-clause-own
returns-clause-own c = alone_when

pub returns-clause-alone : goal.returns-clause-alone
returns-clause-alone c = own_when
