-- Where the function begins that is open behind one item more.
use Rattle.std.proofs.Common.{◌≡◌, ℕ, suc, ◌+◌, ◌<◌, List, [], ◌∷◌, ◌++◌, length, take, get_or, Option, Some, None, refl, sym, ap, ◌∙◌, arith}
use Rattle.std.proofs.lemmas.List.{take_more, length-take-le}
use Rattle.ir_tree.specs.declared.item.Item.{Item}
use Rattle.ir_tree.specs.declared.item.Item.TheVariants as item
use Rattle.ir_rules.specs.Settings.{open_from}
use Rattle.ir_pass.specs.Heads.{next_head}

open-one : (at : ℕ) (last : Option ℕ) (x : Item) → open_from at last (x ∷ []) ≡ next_head at last x
open-one at last (item.Head n t ps) = refl
open-one at last item.End = refl
open-one at last (item.TypeDef n t) = refl
open-one at last (item.Global n c t i) = refl
open-one at last (item.Declare n t ts) = refl
open-one at last (item.Label n) = refl
open-one at last (item.Instr r o) = refl

module _ (x : Item) where
  further : (at k : ℕ) (last : Option ℕ) → next_head (suc at + k) last x ≡ next_head (at + suc k) last x
  further at k last = let along : suc at + k ≡ at + suc k = omega arith in ap (λ n. next_head n last x) along

  pub open-last : (at : ℕ) (last : Option ℕ) (xs : List Item) → open_from at last (xs ++ x ∷ []) ≡ next_head (at + length xs) (open_from at last xs) x
  open-last at last [] = let here : at ≡ at + 0 = omega arith in open-one at last x ∙ ap (λ n. next_head n last x) here
  open-last at last (item.Head n t ps ∷ xs) = open-last (suc at) (Some at) xs ∙ further at (length xs) (open_from (suc at) (Some at) xs)
  open-last at last (item.End ∷ xs) = open-last (suc at) None xs ∙ further at (length xs) (open_from (suc at) None xs)
  open-last at last (item.TypeDef n t ∷ xs) = open-last (suc at) last xs ∙ further at (length xs) (open_from (suc at) last xs)
  open-last at last (item.Global n c t i ∷ xs) = open-last (suc at) last xs ∙ further at (length xs) (open_from (suc at) last xs)
  open-last at last (item.Declare n t ts ∷ xs) = open-last (suc at) last xs ∙ further at (length xs) (open_from (suc at) last xs)
  open-last at last (item.Label n ∷ xs) = open-last (suc at) last xs ∙ further at (length xs) (open_from (suc at) last xs)
  open-last at last (item.Instr r o ∷ xs) = open-last (suc at) last xs ∙ further at (length xs) (open_from (suc at) last xs)

-- behind item i
pub head-next : (items : List Item) (i : ℕ) (x : Item) → i < length items → x ≡ get_or items i x
    → open_from 0 None (take (i + 1) items) ≡ next_head i (open_from 0 None (take i items)) x
head-next items i x h e =
    let long : 0 + length (take i items) ≡ i = omega (arith, length-take-le i items (omega arith)) in
    ap (open_from 0 None) (take_more items i x h ∙ ap (λ y. take i items ++ y ∷ []) (sym e))
    ∙ open-last x 0 None (take i items)
    ∙ ap (λ n. next_head n (open_from 0 None (take i items)) x) long
