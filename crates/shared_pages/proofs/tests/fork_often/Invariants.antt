use Rattle.shared_pages.specs.Store.{IsIn}
use Rattle.shared_pages.proofs.tests.fork_often.Given as goal

abbrev pub invariant-forks : goal.invariant-forks
invariant-forks g l = IsIn l.store l.id
