-- Sizes of types, and of the parts that a path goes into.
use Rattle.std.proofs.Common.{◌≡◌, ℕ, zero, suc, ◌≤◌, max, Bool, true, false, List, [], ◌∷◌, map, slice_get, Option, Some, None, nat_lt, refl, sym, ap, ◌∙◌, arith, if◌then◌else◌}
use Rattle.std.specs.List.{fold}
use Rattle.std.proofs.lemmas.Bool.Decides.{nat_tests}
use Rattle.am_base.specs.declared.limits.TheConstants.{MAX_TYPE_BYTES}
use Rattle.type_layout.specs.declared.ty.Ty.{Ty, out-Ty, map-Ty, fold_out-Ty}
use Rattle.type_layout.specs.declared.ty.Ty.TheOpen.{Ty-F}
use Rattle.type_layout.specs.Types.{Layout, layout_of, layout_step}
use Rattle.type_table.specs.Table.{extent_with}
use Rattle.ir_tree.specs.declared.type_text.TyText.{TyText}
use Rattle.ir_rules.specs.Types.{TypeDefs, expanded, is_large}
use Rattle.type_table.specs.declared.shape.Extent.{Extent}

pub level : (t : Ty) → layout_of t ≡ layout_step (map-Ty Ty Layout layout_of (out-Ty t))
level t = fold_out-Ty Layout layout_step t

abbrev step_of_level : Ty-F Ty → Layout
step_of_level x = layout_step (map-Ty Ty Layout layout_of x)

level-is : (t : Ty) (x : Ty-F Ty) → out-Ty t ≡ x → layout_of t ≡ layout_step (map-Ty Ty Layout layout_of x)
level-is t x e = level t ∙ ap step_of_level e

most-start : (fs : List Layout) (m : ℕ) → m ≤ fold (λ most (f : Layout). max most f.most) m fs
most-start [] m = omega arith
most-start (f ∷ fs) m = omega (arith, most-start fs (max m f.most))

most-each : (fs : List Ty) (m i : ℕ) (f : Ty) → slice_get fs i ≡ Some f → (layout_of f).most ≤ fold (λ most (f : Layout). max most f.most) m (map layout_of fs)
most-each [] m i f h = cc
most-each (x ∷ xs) m zero f h =
    let same : x ≡ f = cc in
    let e = ap (λ (t : Ty). (layout_of t).most) same in
    omega (arith, most-start (map layout_of xs) (max m (layout_of x).most))
most-each (x ∷ xs) m (suc i) f h = most-each xs (max m (layout_of x).most) i f h

pub element-most : (t : Ty) (n : ℕ) (u : Ty) → out-Ty t ≡ Ty-F.Array n u → (layout_of u).most ≤ (layout_of t).most
element-most t n u e = let same = ap (λ (l : Layout). l.most) (level-is t (Ty-F.Array n u) e) in omega arith

pub field-most : (t : Ty) (fs : List Ty) (i : ℕ) (u : Ty) → out-Ty t ≡ Ty-F.Struct fs → slice_get fs i ≡ Some u → (layout_of u).most ≤ (layout_of t).most
field-most t fs i u e h =
    let same = ap (λ (l : Layout). l.most) (level-is t (Ty-F.Struct fs) e) in
    omega (arith, most-each fs (layout_step (Ty-F.Struct (map layout_of fs))).size i u h)

pub small : (defs : TypeDefs) (t : TyText) → is_large defs t ≡ false → (layout_of (expanded defs t)).most ≤ MAX_TYPE_BYTES
small defs t h = grind (arith, nat_tests)

-- a type that isn't too large has an extent
pub extent-is : (l : Layout) → l.most ≤ MAX_TYPE_BYTES → extent_with l ≡ Some (record { size = l.size; align = l.align; offsets = l.offsets })
extent-is l h = by (nat_lt MAX_TYPE_BYTES l.most) refl
  where
    by : (b : Bool) → nat_lt MAX_TYPE_BYTES l.most ≡ b → extent_with l ≡ Some (record { size = l.size; align = l.align; offsets = l.offsets })
    by false e = ap (λ (b : Bool). if b then None else Some (record { size = l.size; align = l.align; offsets = l.offsets })) e
    by true e = absurd (grind (arith, nat_tests))
