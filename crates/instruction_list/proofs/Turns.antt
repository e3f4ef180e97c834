-- What is done of the items with what is left of them.
use Rattle.std.proofs.Common.{◌≡◌, ℕ, ◌+◌, ◌<◌, List, [], ◌∷◌, ◌++◌, length, drop, get_or, refl, sym, ap, subst, ◌∙◌, arith, append_assoc}
use Rattle.std.specs.Prelude.{◌≤◌}
use Rattle.std.proofs.lemmas.List.{drop_more}
use Rattle.ir_tree.specs.declared.item.Item.{Item}
use Rattle.ir_tree.specs.declared.item.Item.TheVariants as item
use Rattle.instruction_list.specs.declared.line.Line.{Line}
use Rattle.instruction_list.specs.declared.walk.Walk.{Walk}
use Rattle.instruction_list.specs.Lines.{line_of, lines_from}
use Rattle.instruction_list.specs.Walks.{with_item}

-- with the lines of some items
abbrev pub With : Walk → List Item → List Line
With w items = w.lines ++ lines_from w.function w.count items

one_item : (w : Walk) (x : Item) (more : List Item) → With (with_item w x) more ≡ With w (x ∷ more)
one_item w (item.Head g t ps) more = refl
one_item w (item.Instr r o) more = append_assoc w.lines (line_of w.function (w.count + 1) o ∷ []) (lines_from w.function (w.count + 1) more)
one_item w (item.TypeDef n t) more = refl
one_item w (item.Global n c t i) more = refl
one_item w (item.Declare n t ts) more = refl
one_item w (item.Label n) more = refl
one_item w item.End more = refl

pub item_turn : (items : List Item) (i : ℕ) (x : Item) (w v : Walk) → i < length items → x ≡ get_or items i x → v ≡ with_item w x
    → With v (drop (i + 1) items) ≡ With w (drop i items)
item_turn items i x w v h e a =
    ap (λ u. With u (drop (i + 1) items)) a ∙ one_item w x (drop (i + 1) items)
    ∙ ap (With w) (ap (λ y. y ∷ drop (i + 1) items) e ∙ sym (drop_more items i x h))

within : (w : Walk) (x : Item) → (with_item w x).count ≤ w.count + 1
within w (item.Head g t ps) = omega arith
within w (item.Instr r o) = omega arith
within w (item.TypeDef n t) = omega arith
within w (item.Global n c t i) = omega arith
within w (item.Declare n t ts) = omega arith
within w (item.Label n) = omega arith
within w item.End = omega arith

-- the count rises by one at most
pub rises : (w v : Walk) (x : Item) → v ≡ with_item w x → v.count ≤ w.count + 1
rises w v x e = subst (λ (u : Walk). u.count ≤ w.count + 1) (sym e) (within w x)
