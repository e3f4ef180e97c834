-- The text of an accepted module: `accepted,FUNCTIONS,BLOCKS,INSTRUCTIONS,GLOBALS`.
use Rattle.std.specs.Prelude.{ℕ, ◌+◌, Bool, true, false, ◌&&◌, if◌then◌else◌, List, [], ◌∷◌, ◌++◌, codes, decimal}
use Rattle.ir_tree.specs.declared.item.Item.{Item}
use Rattle.ir_tree.specs.declared.item.Item.TheVariants as item
use Rattle.command_texts.specs.declared.accepted.Kind.{Kind}
use Rattle.command_texts.specs.declared.accepted.Kind.TheVariants.{Head, Label, Instruction, Global}

unfoldable pub is_head : Item → Bool
is_head (item.Head n t ps) = true
is_head _ = false

unfoldable pub is_label : Item → Bool
is_label (item.Label n) = true
is_label _ = false

unfoldable pub is_instruction : Item → Bool
is_instruction (item.Instr r o) = true
is_instruction _ = false

unfoldable pub is_global : Item → Bool
is_global (item.Global n constant t i) = true
is_global _ = false

-- how many items pass a test
abbrev pub count_of : (Item → Bool) → List Item → ℕ
count_of test [] = 0
count_of test (x ∷ more) = (if test x then 1 else 0) + count_of test more

abbrev pub test_of : Kind → Item → Bool
test_of Head = is_head
test_of Label = is_label
test_of Instruction = is_instruction
test_of Global = is_global

-- how many instructions stand directly behind the head of a function: each begins a block without a label. Whether the first item does is told.
abbrev pub unlabelled_behind : Bool → List Item → ℕ
unlabelled_behind head [] = 0
unlabelled_behind head (x ∷ more) = (if (head && is_instruction x) then 1 else 0) + unlabelled_behind (is_head x) more

-- the blocks with a label, and those without
abbrev pub block_count : List Item → ℕ
block_count items = count_of is_label items + unlabelled_behind false items

abbrev pub accepted_text : List Item → List ℕ
accepted_text items =
    codes "accepted," ++ decimal (count_of is_head items) ++ 44 ∷ decimal (block_count items) ++ 44 ∷ decimal (count_of is_instruction items)
    ++ 44 ∷ decimal (count_of is_global items) ++ 10 ∷ []
