-- Globals with their places.
use Rattle.std.specs.Prelude.{ℕ, Bool, true, false, List}
use Rattle.ir_tree.specs.declared.name.Name.{Name}
use Rattle.ir_tree.specs.declared.type_text.TyText.{TyText}
use Rattle.ir_tree.specs.declared.operand.Init.{Init}
use Rattle.ir_tree.specs.declared.item.Item.{Item}
use Rattle.ir_rules.specs.Memory.{Global, constants_of, variables_of}
use Rattle.ir_memory.specs.declared.places.Placed.{Placed}

-- the constant globals of some items, or the variable ones
abbrev pub globals_by : Bool → List Item → List Global
globals_by true items = constants_of items
globals_by false items = variables_of items

abbrev pub one : Name → TyText → Init → Global
one n t i = (n, t, i)

abbrev pub placed : Placed → ℕ × Global
placed p = (p.at, (p.name.now, p.ty.now, p.init.now))

-- a global's name with its address
abbrev pub named : ℕ × Global → Name × ℕ
named p = (p.1.0, p.0)
