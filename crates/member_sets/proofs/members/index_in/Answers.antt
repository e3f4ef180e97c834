use Rattle.std.proofs.Common.{rules, ◌∙◌}
use Rattle.std.proofs.lemmas.List.{get_or_default}
use Rattle.member_sets.proofs.Parts.{found}
use Rattle.member_sets.proofs.members.index_in.Goals as goal

pub returns-in-Err-clause-none : goal.returns-in-Err-clause-none
returns-in-Err-clause-none c k l e =
    let t = (found c.args.list.now c.args.m c.binary_search.result c.requires c.binary_search.ensures.position).1 (
      k,
      l,
      get_or_default c.args.list.now k c.args.m 0 l ∙ e,
    ) in
    absurd (search (rules, t))
