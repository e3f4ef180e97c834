-- The names in a type, level by level.
use Rattle.std.proofs.Common.{◌≡◌, ◌⊎◌, ℕ, Bool, true, false, ◌||◌, not, is_some, List, [], ◌∷◌, ◌++◌, map, refl, sym, ap, ◌∙◌}
use mathlib.Core.Logic.{⊎_elim}
use Rattle.std.specs.List.{list_any, flat_map}
use Rattle.std.proofs.lemmas.List.{append-nil}
use Rattle.std.proofs.lemmas.Grind.{flat_map-append}
use Rattle.am_base.specs.declared.word.Width.{Width}
use Rattle.ir_tree.specs.declared.name.Name.{Name}
use Rattle.ir_tree.specs.declared.type_text.TyText.{TyText}
use Rattle.ir_tree.specs.declared.type_text.TyText.TheVariants as text
use Rattle.ir_tree.specs.declared.type_text.TyText.TheOpen.{TyText-F}
use Rattle.ir_tree.specs.declared.type_text.TyText.TheFolds.{fold-roll-TyText}
use Rattle.ir_names.specs.Names.{defined}
use Rattle.ir_rules.specs.Types.{names_in, names_step, joined}
use Rattle.ir_types.specs.Graph.{maybe_number, numbers_in, names_unknown}

names-Int : (w : Width) → names_in (text.Int w) ≡ []
unfolding names_in
names-Int w = ap names_in (sym (text.rolls-Int w)) ∙ fold-roll-TyText (List Name) names_step (TyText-F.Int w)

names-Ptr : names_in text.Ptr ≡ []
unfolding names_in
names-Ptr = ap names_in (sym text.rolls-Ptr) ∙ fold-roll-TyText (List Name) names_step TyText-F.Ptr

names-Void : names_in text.Void ≡ []
unfolding names_in
names-Void = ap names_in (sym text.rolls-Void) ∙ fold-roll-TyText (List Name) names_step TyText-F.Void

names-Array : (n : ℕ) (t : TyText) → names_in (text.Array n t) ≡ names_in t
unfolding names_in
names-Array n t = ap names_in (sym (text.rolls-Array n t)) ∙ fold-roll-TyText (List Name) names_step (TyText-F.Array n t)

names-Struct : (ts : List TyText) → names_in (text.Struct ts) ≡ joined (map names_in ts)
unfolding names_in
names-Struct ts = ap names_in (sym (text.rolls-Struct ts)) ∙ fold-roll-TyText (List Name) names_step (TyText-F.Struct ts)

names-Named : (n : Name) → names_in (text.Named n) ≡ n ∷ []
unfolding names_in
names-Named n = ap names_in (sym (text.rolls-Named n)) ∙ fold-roll-TyText (List Name) names_step (TyText-F.Named n)

-- ---- some of the names

or_assoc : (a b c : Bool) → ((a || b) || c) ≡ (a || (b || c))
or_assoc true b c = refl
or_assoc false b c = refl

or_false : (a : Bool) → (a || false) ≡ a
or_false true = refl
or_false false = refl

any-append : {X : Type 0} (p : X → Bool) (xs ys : List X) → list_any p (xs ++ ys) ≡ (list_any p xs || list_any p ys)
any-append p [] ys = refl
any-append p (x ∷ xs) ys = ap (λ b. p x || b) (any-append p xs ys) ∙ sym (or_assoc (p x) (list_any p xs) (list_any p ys))

any-joined : (p : Name → Bool) (ts : List TyText) → list_any p (joined (map names_in ts)) ≡ list_any (λ t. list_any p (names_in t)) ts
any-joined p [] = refl
any-joined p (t ∷ ts) = any-append p (names_in t) (joined (map names_in ts)) ∙ ap (λ b. list_any p (names_in t) || b) (any-joined p ts)

flat-joined : {X : Type 0} (f : Name → List X) (ts : List TyText) → flat_map f (joined (map names_in ts)) ≡ flat_map (λ t. flat_map f (names_in t)) ts
flat-joined f [] = refl
flat-joined f (t ∷ ts) = flat_map-append f (names_in t) (joined (map names_in ts)) ∙ ap (λ l. flat_map f (names_in t) ++ l) (flat-joined f ts)

module _ (nums : List (Name × ℕ)) (t : TyText) where
  abbrev test : Name → Bool
  test n = not (is_some (defined nums n))

  abbrev number : Name → List ℕ
  number n = maybe_number (defined nums n)

  unknown-Int : (w : Width) → t ≡ text.Int w → false ≡ names_unknown nums t
  unknown-Int w e = sym (ap (names_unknown nums) e ∙ ap (list_any test) (names-Int w))

  unknown-Ptr : t ≡ text.Ptr → false ≡ names_unknown nums t
  unknown-Ptr e = sym (ap (names_unknown nums) e ∙ ap (list_any test) names-Ptr)

  unknown-Void : t ≡ text.Void → false ≡ names_unknown nums t
  unknown-Void e = sym (ap (names_unknown nums) e ∙ ap (list_any test) names-Void)

  pub unknown-plain : ((w : Width) × (t ≡ text.Int w)) ⊎ ((t ≡ text.Ptr) ⊎ (t ≡ text.Void)) → false ≡ names_unknown nums t
  unknown-plain h = ⊎_elim (λ p. unknown-Int p.0 p.1) (λ q. ⊎_elim unknown-Ptr unknown-Void q) h

  pub unknown-Array : (n : ℕ) (of : TyText) → t ≡ text.Array n of → names_unknown nums of ≡ names_unknown nums t
  unknown-Array n of e = sym (ap (names_unknown nums) e ∙ ap (list_any test) (names-Array n of))

  pub unknown-Struct : (ts : List TyText) → t ≡ text.Struct ts → list_any (names_unknown nums) ts ≡ names_unknown nums t
  unknown-Struct ts e = sym (ap (names_unknown nums) e ∙ ap (list_any test) (names-Struct ts) ∙ any-joined test ts)

  pub unknown-Named : (n : Name) → t ≡ text.Named n → not (is_some (defined nums n)) ≡ names_unknown nums t
  unknown-Named n e = sym (ap (names_unknown nums) e ∙ ap (list_any test) (names-Named n) ∙ or_false (test n))

  numbers-Int : (w : Width) → t ≡ text.Int w → numbers_in nums t ≡ []
  numbers-Int w e = ap (numbers_in nums) e ∙ ap (flat_map number) (names-Int w)

  numbers-Ptr : t ≡ text.Ptr → numbers_in nums t ≡ []
  numbers-Ptr e = ap (numbers_in nums) e ∙ ap (flat_map number) names-Ptr

  numbers-Void : t ≡ text.Void → numbers_in nums t ≡ []
  numbers-Void e = ap (numbers_in nums) e ∙ ap (flat_map number) names-Void

  numbers-plain : ((w : Width) × (t ≡ text.Int w)) ⊎ ((t ≡ text.Ptr) ⊎ (t ≡ text.Void)) → numbers_in nums t ≡ []
  numbers-plain h = ⊎_elim (λ p. numbers-Int p.0 p.1) (λ q. ⊎_elim numbers-Ptr numbers-Void q) h

  pub numbers-Array : (n : ℕ) (of : TyText) → t ≡ text.Array n of → numbers_in nums of ≡ numbers_in nums t
  numbers-Array n of e = sym (ap (numbers_in nums) e ∙ ap (flat_map number) (names-Array n of))

  pub numbers-Struct : (ts : List TyText) → t ≡ text.Struct ts → flat_map (numbers_in nums) ts ≡ numbers_in nums t
  numbers-Struct ts e = sym (ap (numbers_in nums) e ∙ ap (flat_map number) (names-Struct ts) ∙ flat-joined number ts)

  pub numbers-Named : (n : Name) → t ≡ text.Named n → maybe_number (defined nums n) ≡ numbers_in nums t
  numbers-Named n e = sym (ap (numbers_in nums) e ∙ ap (flat_map number) (names-Named n) ∙ append-nil (number n))

  -- a type without names adds nothing
  pub adds-nothing : (list : List ℕ) → ((w : Width) × (t ≡ text.Int w)) ⊎ ((t ≡ text.Ptr) ⊎ (t ≡ text.Void)) → list ≡ list ++ numbers_in nums t
  adds-nothing list h = sym (ap (λ l. list ++ l) (numbers-plain h) ∙ append-nil list)
