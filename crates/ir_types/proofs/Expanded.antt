-- What a type stands for depends on what the names in it stand for alone.
use Rattle.std.proofs.Common.{◌≡◌, Bool, true, false, ◌||◌, List, [], ◌∷◌, map, refl, sym, ap, subst, ◌∙◌}
use Rattle.std.specs.List.{list_any, flat_map}
use Rattle.std.proofs.lemmas.List.Folds.{list_any-append}
use Rattle.type_layout.specs.declared.ty.Ty.{Ty}
use Rattle.type_layout.specs.declared.ty.Ty.TheVariants as ty
use Rattle.ir_tree.specs.declared.name.Name.{Name}
use Rattle.ir_tree.specs.declared.type_text.TyText.{TyText, map-TyText, roll-TyText}
use Rattle.ir_tree.specs.declared.type_text.TyText.TheOpen.{TyText-F}
use Rattle.ir_tree.specs.declared.type_text.TyText.TheFolds.{fold-roll-TyText, ind-TyText}
use Rattle.ir_rules.specs.Types.{names_in, names_step, joined, expand_by, expand_step}

neither : (x y : Bool) → (x || y) ≡ false → (x ≡ false) × (y ≡ false)
neither false y h = (refl, h)
neither true y h = cc

pub any-flat : {X Y : Type 0} (p : Y → Bool) (f : X → List Y) (xs : List X) → list_any p (flat_map f xs) ≡ list_any (λ x. list_any p (f x)) xs
any-flat p f [] = refl
any-flat p f (x ∷ xs) = list_any-append p (f x) (flat_map f xs) ∙ ap (λ b. list_any p (f x) || b) (any-flat p f xs)

names-roll : (x : TyText-F TyText) → names_in (roll-TyText x) ≡ names_step (map-TyText TyText (List Name) names_in x)
unfolding names_in
names-roll x = fold-roll-TyText (List Name) names_step x

module _ (f g : Name → Ty) (q : Name → Bool) (same : (m : Name) → q m ≡ false → f m ≡ g m) where
  abbrev Alike : TyText → Type 0
  Alike t = list_any q (names_in t) ≡ false → expand_by f t ≡ expand_by g t

  abbrev Child : Type 0
  Child = (t : TyText) × Alike t

  abbrev text_of : TyText-F Child → TyText-F TyText
  text_of y = map-TyText Child TyText (λ c. c.0) y

  fields : (cs : List Child) → list_any q (joined (map names_in (map (λ c. c.0) cs))) ≡ false
      → map (expand_by f) (map (λ c. c.0) cs) ≡ map (expand_by g) (map (λ c. c.0) cs)
  fields [] h = refl
  fields (c ∷ cs) h =
      let p = neither (list_any q (names_in c.0)) (list_any q (joined (map names_in (map (λ c. c.0) cs))))
      (sym (list_any-append q (names_in c.0) (joined (map names_in (map (λ c. c.0) cs)))) ∙ h) in
      λ i. c.1 p.0 i ∷ fields cs p.1 i

  level : (y : TyText-F Child) → list_any q (names_step (map-TyText TyText (List Name) names_in (text_of y))) ≡ false
      → expand_step f (map-TyText TyText Ty (expand_by f) (text_of y)) ≡ expand_step g (map-TyText TyText Ty (expand_by g) (text_of y))
  level (TyText-F.Int w) h = refl
  level TyText-F.Ptr h = refl
  level TyText-F.Void h = refl
  level (TyText-F.Array n c) h = ap (ty.Array n) (c.1 h)
  level (TyText-F.Struct cs) h = ap ty.Struct (fields cs h)
  level (TyText-F.Named n) h = same n (neither (q n) false h).0

  levels : (y : TyText-F Child) → Alike (roll-TyText (text_of y))
  levels y h =
      fold-roll-TyText Ty (expand_step f) (text_of y)
      ∙ level y (ap (list_any q) (sym (names-roll (text_of y))) ∙ h)
      ∙ sym (fold-roll-TyText Ty (expand_step g) (text_of y))

  pub expand-same : (t : TyText) → list_any q (names_in t) ≡ false → expand_by f t ≡ expand_by g t
  expand-same = ind-TyText Alike (λ x y e. subst (λ (x : TyText-F TyText). Alike (roll-TyText x)) e (levels y))
