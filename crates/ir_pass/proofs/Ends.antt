-- The items up to the first end.
use Rattle.std.proofs.Common.{◌≡◌, ℕ, suc, ◌+◌, ◌<◌, ◌≤◌, Bool, true, false, List, [], ◌∷◌, ◌++◌, length, take, drop, get_or, refl, sym, ap, ◌∙◌, arith, append_assoc}
use Rattle.std.proofs.lemmas.List.{take_more, drop_more, take_all, drop_all, append-nil}
use Rattle.ir_tree.specs.declared.item.Item.{Item}
use Rattle.ir_tree.specs.declared.item.Item.TheVariants as item
use Rattle.ir_rules.specs.Settings.{upto_end}
use Rattle.ir_pass.specs.Heads.{is_end}

upto-end : (x : Item) (rest : List Item) → is_end x ≡ true → upto_end (x ∷ rest) ≡ x ∷ []
upto-end item.End rest h = refl
upto-end (item.TypeDef n t) rest h = cc
upto-end (item.Global n c t i) rest h = cc
upto-end (item.Declare n t ts) rest h = cc
upto-end (item.Head n t ps) rest h = cc
upto-end (item.Label n) rest h = cc
upto-end (item.Instr r o) rest h = cc

upto-other : (x : Item) (rest : List Item) → is_end x ≡ false → upto_end (x ∷ rest) ≡ x ∷ upto_end rest
upto-other item.End rest h = cc
upto-other (item.TypeDef n t) rest h = refl
upto-other (item.Global n c t i) rest h = refl
upto-other (item.Declare n t ts) rest h = refl
upto-other (item.Head n t ps) rest h = refl
upto-other (item.Label n) rest h = refl
upto-other (item.Instr r o) rest h = refl

module _ (items : List Item) (i : ℕ) (x : Item) (h : i < length items) (e : x ≡ get_or items i x) (so : upto_end items ≡ take i items ++ upto_end (drop i items)) where
  pub taken : take (i + 1) items ≡ take i items ++ x ∷ []
  taken = take_more items i x h ∙ ap (λ y. take i items ++ y ∷ []) (sym e)

  pub dropped : drop i items ≡ x ∷ drop (i + 1) items
  dropped = drop_more items i x h ∙ ap (λ y. y ∷ drop (i + 1) items) (sym e)

  pub end-found : is_end x ≡ true → take (i + 1) items ≡ upto_end items
  end-found t = taken ∙ sym (so ∙ ap (λ l. take i items ++ upto_end l) dropped ∙ ap (λ l. take i items ++ l) (upto-end x (drop (i + 1) items) t))

  pub end-later : is_end x ≡ false → upto_end items ≡ take (i + 1) items ++ upto_end (drop (i + 1) items)
  end-later f =
      so
      ∙ ap (λ l. take i items ++ upto_end l) dropped
      ∙ ap (λ l. take i items ++ l) (upto-other x (drop (i + 1) items) f)
      ∙ sym (append_assoc (take i items) (x ∷ []) (upto_end (drop (i + 1) items)))
      ∙ ap (λ l. l ++ upto_end (drop (i + 1) items)) (sym taken)

pub no-end : (items : List Item) (i : ℕ) → length items ≤ i → upto_end items ≡ take i items ++ upto_end (drop i items) → take (length items) items ≡ upto_end items
no-end items i h so =
    take_all (length items) items (omega arith)
    ∙ sym (
    so
    ∙ ap (λ l. l ++ upto_end (drop i items)) (take_all i items h)
    ∙ ap (λ l. items ++ upto_end l) (drop_all i items h)
    ∙ append-nil items
    )
