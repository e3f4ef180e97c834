use Rattle.std.proofs.Common.{◌∙◌}
use Rattle.mutant_maker.specs.Walks.{made_in_items}
use Rattle.mutant_maker.proofs.list.list_from.Goals as goal

pub returns-clause-list : goal.returns-clause-list
returns-clause-list c =
    c.listed.ensures.list (made_in_items c.args.items.now c.args.instrs.now) (c.as_slice.ensures ∙ c.in_ok-rows.ensures)

pub returns-clause-few : goal.returns-clause-few
returns-clause-few c =
    c.listed.ensures.few (made_in_items c.args.items.now c.args.instrs.now) (c.as_slice.ensures ∙ c.in_ok-rows.ensures)

pub returns-clause-many : goal.returns-clause-many
returns-clause-many c =
    c.listed.ensures.many (made_in_items c.args.items.now c.args.instrs.now) (c.as_slice.ensures ∙ c.in_ok-rows.ensures)
