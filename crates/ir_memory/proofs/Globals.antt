-- The globals of some items, one item more.
use Rattle.std.proofs.Common.{◌≡◌, ℕ, ◌+◌, Bool, true, false, List, [], ◌∷◌, ◌++◌, map, drop, refl, sym, ap, subst, ◌∙◌}
use Rattle.std.proofs.lemmas.List.{append_assoc}
use Rattle.ir_tree.specs.declared.name.Name.{Name}
use Rattle.ir_tree.specs.declared.type_text.TyText.{TyText}
use Rattle.ir_tree.specs.declared.operand.Init.{Init}
use Rattle.ir_tree.specs.declared.item.Item.{Item}
use Rattle.ir_tree.specs.declared.item.Item.TheVariants as item
use Rattle.ir_rules.specs.Types.{TypeDefs}
use Rattle.ir_rules.specs.Memory.{Global, places_from, end_from}
use Rattle.ir_memory.specs.Places.{globals_by}

pub taken : (k : Bool) (n : Name) (t : TyText) (i : Init) (rest : List Item) → globals_by k (item.Global n k t i ∷ rest) ≡ (n, t, i) ∷ globals_by k rest
taken true n t i rest = refl
taken false n t i rest = refl

pub left : (k c : Bool) (n : Name) (t : TyText) (i : Init) (rest : List Item) → (c ≡ k → ⊥) → globals_by k (item.Global n c t i ∷ rest) ≡ globals_by k rest
left true true n t i rest h = absurd (h refl)
left true false n t i rest h = refl
left false true n t i rest h = refl
left false false n t i rest h = absurd (h refl)

pub other : (k : Bool) (x : Item) (rest : List Item) → ((n : Name) (c : Bool) (t : TyText) (i : Init) → x ≡ item.Global n c t i → ⊥)
    → globals_by k (x ∷ rest) ≡ globals_by k rest
other k (item.Global n c t i) rest free = absurd (free n c t i refl)
other true (item.TypeDef n t) rest free = refl
other true (item.Declare n t ts) rest free = refl
other true (item.Head n t ps) rest free = refl
other true (item.Label n) rest free = refl
other true (item.Instr r o) rest free = refl
other true item.End rest free = refl
other false (item.TypeDef n t) rest free = refl
other false (item.Declare n t ts) rest free = refl
other false (item.Head n t ps) rest free = refl
other false (item.Label n) rest free = refl
other false (item.Instr r o) rest free = refl
other false item.End rest free = refl

-- a list with one element more, in front of the rest
pub one-more : {X : Type 0} (old new : List X) (x : X) (rest before : List X) → new ≡ old ++ x ∷ [] → before ≡ x ∷ rest → new ++ rest ≡ old ++ before
one-more old new x rest before e h =
    ap (λ l. l ++ rest) e ∙ append_assoc old (x ∷ []) rest ∙ ap (λ l. old ++ l) (sym h)

-- ---- along the items

pub none-left : (k : Bool) → globals_by k [] ≡ []
none-left true = refl
none-left false = refl

module _ (k : Bool) (ds D : TypeDefs) (items : List Item) (i : ℕ) (x : Item) (same : ds ≡ D) (dropped : drop i items ≡ x ∷ drop (i + 1) items) where
  pub list-on : (new old total : List (ℕ × Global)) (end e : ℕ)
      → new ++ places_from ds e (globals_by k (drop (i + 1) items)) ≡ old ++ places_from ds end (globals_by k (x ∷ drop (i + 1) items))
      → old ++ places_from D end (globals_by k (drop i items)) ≡ total → new ++ places_from D e (globals_by k (drop (i + 1) items)) ≡ total
  list-on new old total end e h before =
      let rest = drop (i + 1) items in
      let P : TypeDefs → Type 0 = λ ds. new ++ places_from ds e (globals_by k rest) ≡ old ++ places_from ds end (globals_by k (x ∷ rest)) in
      subst P same h ∙ ap (λ l. old ++ places_from D end (globals_by k l)) (sym dropped) ∙ before

  pub end-on : (total end e : ℕ) → end_from ds e (globals_by k (drop (i + 1) items)) ≡ end_from ds end (globals_by k (x ∷ drop (i + 1) items))
      → end_from D end (globals_by k (drop i items)) ≡ total → end_from D e (globals_by k (drop (i + 1) items)) ≡ total
  end-on total end e h before =
      let rest = drop (i + 1) items in
      let P : TypeDefs → Type 0 = λ ds. end_from ds e (globals_by k rest) ≡ end_from ds end (globals_by k (x ∷ rest)) in
      subst P same h ∙ ap (λ l. end_from D end (globals_by k l)) (sym dropped) ∙ before

-- ---- names

pub maps : {A B C : Type 0} (f : B → C) (g : A → B) (xs : List A) → map f (map g xs) ≡ map (λ x. f (g x)) xs
maps f g [] = refl
maps f g (x ∷ xs) = ap (λ ys. f (g x) ∷ ys) (maps f g xs)
