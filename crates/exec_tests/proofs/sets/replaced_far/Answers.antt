use Rattle.exec_tests.proofs.Numbered.{few_at_first, few_more}
use Rattle.exec_tests.proofs.sets.replaced_far.Goals as goal

pub returns : goal.returns
returns c =
    let given = few_at_first _ 0 c.in_ok-table.ensures.nothing_chosen c.in_ok-table.ensures.nothing_mentioned in
    let first = few_more _ _ _ _ _ _ 0 c.in_ok-add.ensures.added given in
    let second = few_more _ _ _ _ _ _ 1 c.in_ok-add-2.ensures.added first in
    let third = few_more _ _ _ _ _ _ 2 c.in_ok-add-3.ensures.added second in
    third.each
