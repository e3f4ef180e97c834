use Rattle.shared_pages.proofs.Laws.{written_own, written_used}
use Rattle.shared_pages.proofs.law.writes_keep_pages.Goals as goal

pub returns-clause-own : goal.returns-clause-own
returns-clause-own c = written_own

pub returns-clause-used : goal.returns-clause-used
returns-clause-used c = written_used
