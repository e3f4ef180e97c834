use Rattle.shared_pages.proofs.Laws.{stays_begun, stays_ended, stays_forked}
use Rattle.shared_pages.proofs.law.own_pages_stay.Goals as goal

pub returns-clause-begun : goal.returns-clause-begun
returns-clause-begun c s t n bytes out begun others m i ne own = stays_begun s t n bytes begun others m i ne own

pub returns-clause-ended : goal.returns-clause-ended
returns-clause-ended c = stays_ended

pub returns-clause-forked : goal.returns-clause-forked
returns-clause-forked c s t m n out forked others k i nm nn own = stays_forked s t m n forked others k i nm nn own
