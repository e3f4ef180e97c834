use Rattle.std.proofs.Common.{refl}
use Rattle.exec_machine.proofs.Numbers.{distinct_two}
use Rattle.exec_machine.proofs.toy.tests.tries_and_groups.Goals as goal

pub tries-requires-clause-distinct : goal.tries-requires-clause-distinct
tries-requires-clause-distinct g c = distinct_two 9 2 refl
