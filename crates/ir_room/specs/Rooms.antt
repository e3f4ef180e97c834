-- How much of the memory the globals so far need.
use Rattle.std.specs.Prelude.{◌≡◌, ℕ, ◌<◌, Bool, true, false, List, slice_index}
use Rattle.std.specs.List.{list_any}
use Rattle.type_table.specs.declared.shape.Extent.{Extent}
use Rattle.ir_tree.specs.declared.item.Item.{Item}
use Rattle.ir_rules.specs.Types.{TypeDefs, is_large}
use Rattle.ir_rules.specs.Parts.{types_of}
use Rattle.ir_rules.specs.Memory.{constants_end, variables_of, end_from}
use Rattle.ir_room.specs.Ends.{limited, end_after}
use Rattle.ir_room.specs.declared.room.Room.{Room}

-- the room says where the constants of the items end, and where their variables end that begin at one of the first eight addresses
pub record IsRoomOf (defs : TypeDefs) (items : List Item) (room : Room) : Type 0 where
  pub constants : room.constants ≡ limited (constants_end defs items)
  pub variables : (r : ℕ) → r < 8 → slice_index room.variables r ≡ limited (end_from defs r (variables_of items))

-- a type that is written in the item, or one inside it, is larger than the greatest size
abbrev pub has_large : TypeDefs → Item → Bool
has_large defs x = list_any (is_large defs) (types_of x)

-- one global more
abbrev pub Takes : Bool → Extent → Room → Room → Type 0
Takes true e old new = (new.constants ≡ end_after old.constants e) × (new.variables ≡ old.variables)
Takes false e old new = (new.constants ≡ old.constants) × ((r : ℕ) → r < 8 → slice_index new.variables r ≡ end_after (slice_index old.variables r) e)
