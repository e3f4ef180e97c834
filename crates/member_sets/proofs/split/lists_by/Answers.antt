use Rattle.std.proofs.Common.{arith}
use Rattle.member_sets.proofs.Lists.{all_filed}
use Rattle.member_sets.proofs.split.lists_by.Goals as goal

pub returns : goal.returns
returns c class_of e =
    all_filed class_of c.args.members.now c.loop-at.at c.loop-at.met.items c.loop-at.lists.items (omega (arith, c.loop-at-test.false, c.loop-at.auto.at-end))
    (c.loop-at.invariant.filed class_of e)
