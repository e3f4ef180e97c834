use Rattle.shared_machine.proofs.Lives.{no_memory}
use Rattle.shared_machine.proofs.machine.SharedOver.over.Goals as goal

pub returns-clause-none_out : goal.returns-clause-none_out
returns-clause-none_out g c = no_memory c.args.store c.requires
