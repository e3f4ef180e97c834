use Rattle.shared_pages.specs.Opening.{IsOpened}
use Rattle.shared_pages.proofs.opening.open.Given as goal

abbrev pub invariant-pages : goal.invariant-pages
invariant-pages l = IsOpened l.fn.store l.store l.id l.bytes l.number
