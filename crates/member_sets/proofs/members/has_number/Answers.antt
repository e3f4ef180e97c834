use Rattle.member_sets.proofs.Parts.{found}
use Rattle.member_sets.proofs.members.has_number.Goals as goal

pub returns : goal.returns
returns c = rw c.is_ok.ensures.value (found c.args.list.now c.args.m c.binary_search.result c.requires c.binary_search.ensures.position)
