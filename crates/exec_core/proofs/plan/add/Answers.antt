use Rattle.std.proofs.Common.{rules, nat_eq, sym, subst}
use Rattle.std.specs.List.{IsDistinct}
use Rattle.exec_core.proofs.TriedLemmas.{distinct_more}
use Rattle.exec_core.proofs.plan.add.Goals as goal

pub returns-in_ok-mark-clause-distinct : goal.returns-in_ok-mark-clause-distinct
returns-in_ok-mark-clause-distinct c = subst (IsDistinct nat_eq) (sym c.in_ok-mark.ensures.pushed) (distinct_more _ _ (search rules) c.requires.distinct)
