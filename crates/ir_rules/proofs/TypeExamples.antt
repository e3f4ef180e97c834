-- The rules on types computed on small modules.
use Rattle.std.proofs.Common.{◌≡◌, ℕ, true, false, List, [], ◌∷◌, map, codes, length, nat_lt, sym, ap, ◌∙◌}
use Rattle.am_base.specs.declared.limits.TheConstants.{MAX_TYPE_BYTES}
use Rattle.am_base.specs.declared.word.Width.{Width}
use Rattle.am_base.specs.declared.word.Width.TheVariants.{W8, W64}
use Rattle.type_layout.specs.declared.ty.Ty.{Ty}
use Rattle.type_layout.specs.declared.ty.Ty.TheVariants as full
use Rattle.type_layout.specs.declared.ty.Ty.TheOpen.{Ty-F}
use Rattle.type_layout.specs.declared.ty.Ty.TheFolds.{fold-roll-Ty}
use Rattle.type_layout.specs.Types.{Layout, layout_of, layout_step}
use Rattle.ir_tree.specs.declared.name.Name.{Name}
use Rattle.ir_tree.specs.declared.name.Name.TheVariants.{Text}
use Rattle.ir_tree.specs.declared.type_text.TyText.{TyText}
use Rattle.ir_tree.specs.declared.type_text.TyText.TheVariants as ty
use Rattle.ir_tree.specs.declared.type_text.TyText.TheOpen.{TyText-F}
use Rattle.ir_tree.specs.declared.type_text.TyText.TheFolds.{fold-roll-TyText}
use Rattle.ir_tree.specs.declared.item.Item.{Item}
use Rattle.ir_tree.specs.declared.item.Item.TheVariants as item
use Rattle.ir_rules.specs.declared.rule.Rule.TheVariants as rule
use Rattle.ir_rules.specs.Types.{TypeDefs, names_in, names_step, joined, leads, named_type, expand_by, expand_step, is_large, layout_in}
use Rattle.ir_rules.proofs.Examples.{broken}

-- ---- the names in a type, level by level

pub names-Int : (w : Width) → names_in (ty.Int w) ≡ []
unfolding names_in
names-Int w = ap names_in (sym (ty.rolls-Int w)) ∙ fold-roll-TyText (List Name) names_step (TyText-F.Int w)

pub names-Array : (n : ℕ) (t : TyText) → names_in (ty.Array n t) ≡ names_in t
unfolding names_in
names-Array n t = ap names_in (sym (ty.rolls-Array n t)) ∙ fold-roll-TyText (List Name) names_step (TyText-F.Array n t)

pub names-Struct : (ts : List TyText) → names_in (ty.Struct ts) ≡ joined (map names_in ts)
unfolding names_in
names-Struct ts = ap names_in (sym (ty.rolls-Struct ts)) ∙ fold-roll-TyText (List Name) names_step (TyText-F.Struct ts)

pub names-Named : (n : Name) → names_in (ty.Named n) ≡ n ∷ []
unfolding names_in
names-Named n = ap names_in (sym (ty.rolls-Named n)) ∙ fold-roll-TyText (List Name) names_step (TyText-F.Named n)

-- ---- UnknownType and RecursiveType

abbrev a : Name
a = Text (codes "a")

abbrev b : Name
b = Text (codes "b")

-- %a = type [0 x %b]
unknown : broken 0 rule.UnknownType (item.TypeDef a (ty.Array 0 (ty.Named b)) ∷ []) ≡ true
unknown = simp (names-Array, names-Named)

known : broken 0 rule.UnknownType (item.TypeDef a (ty.Array 0 (ty.Named b)) ∷ item.TypeDef b (ty.Int W8) ∷ []) ≡ false
known = simp (names-Array, names-Named)

-- %a = type { i8, %a }, %b = type { %a }
abbrev recursive : List Item
recursive = item.TypeDef a (ty.Struct (ty.Int W8 ∷ ty.Named a ∷ [])) ∷ item.TypeDef b (ty.Struct (ty.Named a ∷ [])) ∷ []

itself : broken 0 rule.RecursiveType recursive ≡ true
unfolding leads
itself = simp (names-Struct, names-Named, names-Int)

-- one that only uses a recursive one doesn't contain itself
user : broken 1 rule.RecursiveType recursive ≡ false
unfolding leads
user = simp (names-Struct, names-Named, names-Int)

-- ---- TypeTooLarge

module _ (defs : TypeDefs) where
  abbrev named : Name → Ty
  named = named_type defs (length defs)

  layout-Int : (w : Width) → layout_in defs (ty.Int w) ≡ layout_step (Ty-F.Int w)
  layout-Int w =
      ap layout_of (ap (expand_by named) (sym (ty.rolls-Int w)) ∙ fold-roll-TyText Ty (expand_step named) (TyText-F.Int w))
      ∙ ap layout_of (sym (full.rolls-Int w)) ∙ fold-roll-Ty Layout layout_step (Ty-F.Int w)

  layout-Array : (n : ℕ) (t : TyText) → layout_in defs (ty.Array n t) ≡ layout_step (Ty-F.Array n (layout_in defs t))
  layout-Array n t =
      ap layout_of (ap (expand_by named) (sym (ty.rolls-Array n t)) ∙ fold-roll-TyText Ty (expand_step named) (TyText-F.Array n t))
      ∙ ap layout_of (sym (full.rolls-Array n (expand_by named t))) ∙ fold-roll-Ty Layout layout_step (Ty-F.Array n (expand_by named t))

-- an array of i64
longs : (n : ℕ) → layout_in [] (ty.Array n (ty.Int W64)) ≡ layout_step (Ty-F.Array n (layout_step (Ty-F.Int W64)))
longs n = layout-Array [] n (ty.Int W64) ∙ ap (λ l. layout_step (Ty-F.Array n l)) (layout-Int [] W64)

-- [131072 x i64] fills the memory, and [131073 x i64] is over it, inside an array of none too
fills : is_large [] (ty.Array 131072 (ty.Int W64)) ≡ false
fills = ap (λ (l : Layout). nat_lt MAX_TYPE_BYTES l.most) (longs 131072)

over : is_large [] (ty.Array 131073 (ty.Int W64)) ≡ true
over = ap (λ (l : Layout). nat_lt MAX_TYPE_BYTES l.most) (longs 131073)

inside : is_large [] (ty.Array 0 (ty.Array 131073 (ty.Int W64))) ≡ true
inside = ap (λ (l : Layout). nat_lt MAX_TYPE_BYTES l.most) (layout-Array [] 0 (ty.Array 131073 (ty.Int W64))
    ∙ ap (λ l. layout_step (Ty-F.Array 0 l)) (longs 131073))
