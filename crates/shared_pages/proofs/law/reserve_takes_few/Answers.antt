use Rattle.shared_pages.proofs.Laws.{reserved_few}
use Rattle.shared_pages.proofs.law.reserve_takes_few.Goals as goal

pub returns : goal.returns
returns c = reserved_few
