use Rattle.std.proofs.Common.{◌≡◌, None, ap, ◌∙◌}
use Rattle.ir_tree.specs.declared.item.Item.TheVariants as tree
use Rattle.ir_tree.specs.declared.op.Op.{Op}
use Rattle.mutant_maker.specs.Changes.{changed}
use Rattle.mutant_maker.proofs.rows.text_of.Goals as goal

pub returns : goal.returns
returns c =
    c.item_text.ensures None (changed c.args.op.now c.args.change)
    (ap (λ (op : Op). tree.Instr None op) (c.in_ok-new-2.ensures ∙ c.into_inner.ensures ∙ c.in_ok-new.ensures))
