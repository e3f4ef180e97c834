use Rattle.mutant_maker.proofs.Steps.{done}
use Rattle.mutant_maker.proofs.walk.put_all.Goals as goal

pub returns-in-None : goal.returns-in-None
returns-in-None c = rw c.in-None.is (done c.args.walk.now)
