use Rattle.std.proofs.Common.{◌≡◌, ◌<◌, ◌≤◌, List, length, subst}
use Rattle.std.specs.Prelude.{IfOk, IfErr}
use Rattle.am_base.specs.declared.limits.TheConstants.{MAX_LISTED_MUTANTS}
use Rattle.ir_tree.specs.declared.item.Item.{Item}
use Rattle.mutant_maker.specs.declared.error.MakeError.TheVariants.{TooMany}
use Rattle.mutant_maker.specs.Lists.{list_text}
use Rattle.mutant_maker.specs.Walks.{made_in_items}
use Rattle.mutant_maker.proofs.list.make.Goals as goal

pub returns-clause-list : goal.returns-clause-list
unfolding made_in_items
returns-clause-list c =
    subst (λ (l : List Item). IfOk c.list_from.result (λ text. text.items ≡ list_text (made_in_items l c.args.code.now.instrs))) c.as_slice.ensures
    c.list_from.ensures.list

pub returns-clause-few : goal.returns-clause-few
unfolding made_in_items
returns-clause-few c =
    subst (λ (l : List Item). IfOk c.list_from.result (λ text. length (made_in_items l c.args.code.now.instrs) ≤ MAX_LISTED_MUTANTS)) c.as_slice.ensures
    c.list_from.ensures.few

pub returns-clause-many : goal.returns-clause-many
unfolding made_in_items
returns-clause-many c =
    subst (λ (l : List Item). IfErr c.list_from.result (λ e. e ≡ TooMany → MAX_LISTED_MUTANTS < length (made_in_items l c.args.code.now.instrs)))
    c.as_slice.ensures c.list_from.ensures.many
