use Rattle.mutant_maker_laws.proofs.Accepted.{accepted, no-fault, asked-are, asked-other, asked-different, asked-numbered}
use Rattle.mutant_maker_laws.proofs.laws.made_mutants_are_accepted.Goals as goal

pub returns-clause-accepted : goal.returns-clause-accepted
returns-clause-accepted c = accepted

pub returns-clause-no_fault : goal.returns-clause-no_fault
returns-clause-no_fault c = λ signs text m e h g. no-fault signs text m h e g

pub returns-clause-asked : goal.returns-clause-asked
returns-clause-asked c = λ signs text m asked h g. asked-are signs text m h asked g

pub returns-clause-other : goal.returns-clause-other
returns-clause-other c = λ signs text m asked h g. asked-other signs text m h asked g

pub returns-clause-different : goal.returns-clause-different
returns-clause-different c = λ signs text m asked h g. asked-different signs text m h asked g

pub returns-clause-numbered : goal.returns-clause-numbered
returns-clause-numbered c = λ signs text m list h a. asked-numbered signs text m h list a
