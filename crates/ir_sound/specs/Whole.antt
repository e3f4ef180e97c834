-- Items of which each is allowed where it stands, and after which no function is open.
use Rattle.std.specs.Prelude.{◌≡◌, Bool, true, false, List, [], ◌∷◌, Some}
use Rattle.ir_tree.specs.declared.item.Item.{Item}
use Rattle.ir_grammar.specs.Modules.{is_allowed, leaves_open}

-- the flag says whether a function is open before the items
abbrev pub AreWhole : Bool → List Item → Type 0
AreWhole inside [] = inside ≡ false
AreWhole inside (x ∷ xs) = (is_allowed inside (Some x) ≡ true) × AreWhole (leaves_open (Some x)) xs
