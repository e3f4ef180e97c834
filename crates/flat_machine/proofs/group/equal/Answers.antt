use Rattle.flat_machine.proofs.Equal.{equal_is}
use Rattle.flat_machine.proofs.group.equal.Goals as goal

pub returns : goal.returns
returns c = equal_is c.same.result c.args.a.now c.args.b.now c.same.ensures
