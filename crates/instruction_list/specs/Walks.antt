-- Where the walk over the items is.
use Rattle.std.specs.Prelude.{◌+◌, [], ◌∷◌, ◌++◌}
use Rattle.ir_tree.specs.declared.item.Item.{Item}
use Rattle.ir_tree.specs.declared.item.Item.TheVariants as item
use Rattle.ir_rules.specs.Entities.{name_bytes}
use Rattle.instruction_list.specs.Lines.{line_of}
use Rattle.instruction_list.specs.declared.walk.Walk.{Walk}

-- behind one item more
abbrev pub with_item : Walk → Item → Walk
with_item w (item.Head g t ps) = record w { function = name_bytes g; count = 0 }
with_item w (item.Instr r o) = record w { lines = w.lines ++ line_of w.function (w.count + 1) o ∷ []; count = w.count + 1 }
with_item w _ = w
