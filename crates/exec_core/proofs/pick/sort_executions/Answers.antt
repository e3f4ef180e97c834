use Rattle.std.proofs.Common.{slice_index, rules}
use Rattle.std.proofs.lemmas.List.Sorted.{IsNonDecreasingBy-from_sort_by_key}
use Rattle.exec_core.specs.declared.execution.Execution.{Execution as Concrete}
use Rattle.exec_core.proofs.pick.sort_executions.Goals as goal

pub returns-clause-rising : goal.returns-clause-rising
returns-clause-rising g c = IsNonDecreasingBy-from_sort_by_key (λ (x : Concrete g.row.S.Denot). slice_index x.members 0) _ c.sort_unstable_by_key.ensures.sorted
    (λ a r q k. search rules)
