-- The type definitions of a module by number.
use Rattle.std.specs.Prelude.{ℕ, ◌+◌, List, [], ◌∷◌, fold}
use Rattle.ir_tree.specs.declared.name.Name.{Name}
use Rattle.ir_tree.specs.declared.type_text.TyText.{TyText}
use Rattle.ir_tree.specs.declared.item.Item.{Item}
use Rattle.ir_tree.specs.declared.item.Item.TheVariants as item
use Rattle.ir_names.specs.Names.{with_first}
use Rattle.ir_rules.specs.Types.{TypeDefs}
use Rattle.ir_types.specs.declared.definitions.Numbering.{Numbering}

-- each definition's name with the definition's number in text order, from i
abbrev pub numbered_from : ℕ → TypeDefs → List (Name × ℕ)
numbered_from i [] = []
numbered_from i (d ∷ ds) = (d.0, i) ∷ numbered_from (i + 1) ds

abbrev pub not_numbered : Numbering
not_numbered = record { table = []; next = 0 }

-- one item more
abbrev pub with_definition : Numbering → Item → Numbering
with_definition s (item.TypeDef n t) = record { table = with_first s.table (n, s.next); next = s.next + 1 }
with_definition s _ = s

abbrev pub numbering_of : List Item → Numbering
numbering_of items = fold with_definition not_numbered items

-- what an item defines a type as
abbrev pub body_of : Item → List TyText
body_of (item.TypeDef n t) = t ∷ []
body_of _ = []
