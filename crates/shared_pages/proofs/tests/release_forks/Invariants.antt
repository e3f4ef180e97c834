use Rattle.std.proofs.Common.{vec_len}
use Rattle.shared_pages.specs.Held.{AreHeld}
use Rattle.shared_pages.proofs.tests.release_forks.Given as goal

abbrev pub decreases-forks : goal.decreases-forks
decreases-forks g l = vec_len l.held

abbrev pub invariant-forks : goal.invariant-forks
invariant-forks g l = AreHeld l.store l.id l.held.items
