use Rattle.std.proofs.Common.{rules, ◌∙◌}
use Rattle.exec_core.proofs.TriedLemmas.{same_run}
use Rattle.exec_core.proofs.plan.add_originals.Goals as goal

pub returns-in_ok-add-clause-variants : goal.returns-in_ok-add-clause-variants
returns-in_ok-add-clause-variants c v members is o l h e = c.in_ok-add.ensures.added ∙ same_run v members is _ _ 0 _ (search rules) l h e
