use Rattle.std.proofs.Common.{List, ap, ◌∙◌, arith}
use Rattle.std.specs.List.{flat_map}
use Rattle.ir_tree.specs.declared.item.Item.{Item}
use Rattle.ir_types.specs.Definitions.{body_of}
use Rattle.ir_types.proofs.Numbered.{bodies-all, take-all}
use Rattle.ir_types.proofs.definitions.bodies_of.Goals as goal

pub returns : goal.returns
returns c =
    c.each.invariant ∙ ap (λ (xs : List Item). flat_map body_of xs) (take-all c.args.items.now c.each.item-index (omega arith)) ∙ bodies-all c.args.items.now
