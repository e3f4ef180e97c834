use Rattle.shared_pages.specs.Held.{AreHeld}
use Rattle.shared_pages.proofs.tests.hold_forks.Given as goal

abbrev pub invariant-forks : goal.invariant-forks
invariant-forks g l = AreHeld l.store l.id l.held.items
