-- Where functions begin and end among the items of a module.
use Rattle.std.specs.Prelude.{ℕ, Bool, true, false, List, [], ◌∷◌, Option, Some, None}
use Rattle.ir_tree.specs.declared.item.Item.{Item}
use Rattle.ir_tree.specs.declared.item.Item.TheVariants as item

abbrev pub is_head : Item → Bool
is_head (item.Head n t ps) = true
is_head _ = false

abbrev pub is_end : Item → Bool
is_end item.End = true
is_end _ = false

-- the first item is a head
abbrev pub starts : List Item → Bool
starts [] = false
starts (x ∷ more) = is_head x

-- where the function begins that is open behind item i, by the one before it
abbrev pub next_head : ℕ → Option ℕ → Item → Option ℕ
next_head i last (item.Head n t ps) = Some i
next_head i last item.End = None
next_head i last _ = last

-- whether a function is open behind an item
abbrev pub opened : Bool → Item → Bool
opened inside (item.Head n t ps) = true
opened inside item.End = false
opened inside _ = inside
