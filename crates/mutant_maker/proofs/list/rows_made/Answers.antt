use Rattle.std.proofs.Common.{◌≡◌, List, [], ap, ◌∙◌}
use Rattle.code_form.specs.declared.instr.Instr.{Instr}
use Rattle.ir_tree.specs.declared.item.Item.{Item}
use Rattle.ir_rules.specs.Types.{TypeDefs, type_defs, kind_of}
use Rattle.mutant_maker.specs.declared.rows.Row.{Row}
use Rattle.mutant_maker.specs.Lists.{made_from}
use Rattle.mutant_maker.specs.Walks.{with_all, made_in_items}
use Rattle.mutant_maker.proofs.list.rows_made.Goals as goal

rows_are : (items : List Item) (instrs : List Instr) (defs : TypeDefs) (rows : List Row)
    → rows ≡ with_all [] (made_from (kind_of defs) instrs [] 0 0 items) → defs ≡ type_defs items → rows ≡ with_all [] (made_in_items items instrs)
unfolding made_in_items
rows_are items instrs defs rows b e = b ∙ ap (λ (d : TypeDefs). with_all [] (made_from (kind_of d) instrs [] 0 0 items)) e

pub returns : goal.returns
returns c = rows_are c.args.items.now c.args.instrs.now _ _ c.in_ok-rows.ensures c.in_ok-types.ensures
