use Rattle.machine_parts.proofs.Equal.{equal_is}
use Rattle.machine_parts.proofs.classes.equal.Goals as goal

pub returns : goal.returns
returns c = equal_is c.same.result c.args.a.now c.args.b.now c.same.ensures
