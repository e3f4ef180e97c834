-- Sizes and alignments of types, and of the parts that a path goes into.
use Rattle.std.proofs.Common.{◌≡◌, ◌⊎◌, inl, inr, ℕ, zero, suc, ◌<◌, ◌≤◌, max, Bool, true, false, List, [], ◌∷◌, map, slice_get, Option, Some, None, nat_lt}
use Rattle.std.proofs.Common.{refl, sym, ap, ◌∙◌, subst, arith}
use Rattle.std.specs.List.{fold}
use Rattle.std.proofs.lemmas.Bool.Decides.{nat_tests}
use Rattle.am_base.specs.declared.limits.TheConstants.{MAX_TYPE_BYTES}
use Rattle.am_base.specs.declared.word.Width.{Width}
use Rattle.am_base.specs.declared.word.Width.TheVariants.{W1, W8, W16, W32, W64}
use Rattle.code_form.specs.Sound.{IsAlignment}
use Rattle.type_layout.specs.Layout.{bytes_of}
use Rattle.type_layout.specs.declared.ty.Ty.{Ty, roll-Ty, out-Ty, map-Ty, fold_out-Ty, out-roll-Ty}
use Rattle.type_layout.specs.declared.ty.Ty.TheOpen.{Ty-F}
use Rattle.type_layout.specs.declared.ty.Ty.TheFolds.{ind-Ty}
use Rattle.type_layout.specs.Types.{Layout, layout_of, layout_step, size_of, align_of}
use Rattle.ir_tree.specs.declared.type_text.TyText.{TyText}
use Rattle.ir_rules.specs.Types.{TypeDefs, expanded, is_large, kind_of}
use Rattle.ir_rules.specs.Parts.{Typed}
use Rattle.ir_rules.specs.Paths.{part_of, field_type, field_number}
use Rattle.ir_rules.specs.Memory.{Step, scaled, field, step_of, steps_from, steps_of}
use Rattle.ir_sound.proofs.Lists.{Each}

pub level : (t : Ty) → layout_of t ≡ layout_step (map-Ty Ty Layout layout_of (out-Ty t))
level t = fold_out-Ty Layout layout_step t

-- ---- alignments

max-one : (a b : ℕ) → (max a b ≡ a) ⊎ (max a b ≡ b)
max-one a b = by (nat_lt a b) refl
  where
    by : (v : Bool) → nat_lt a b ≡ v → (max a b ≡ a) ⊎ (max a b ≡ b)
    by true e = inr (let l : a < b = grind (arith, nat_tests) in omega arith)
    by false e = inl (let l : b ≤ a = grind (arith, nat_tests) in omega arith)

width-aligned : (w : Width) → IsAlignment (bytes_of w)
width-aligned W1 = inl refl
width-aligned W8 = inl refl
width-aligned W16 = inr (inl refl)
width-aligned W32 = inr (inr (inl refl))
width-aligned W64 = inr (inr (inr refl))

greatest-aligned : (fs : List Layout) (m : ℕ) → IsAlignment m → Each (λ (f : Layout). IsAlignment f.align) fs
    → IsAlignment (fold (λ most (f : Layout). max most f.align) m fs)
greatest-aligned [] m h all = h
greatest-aligned (f ∷ fs) m h all = greatest-aligned fs (max m f.align) (elim (max-one m f.align) [
  | inl e ↦ subst IsAlignment (sym e) h
  | inr e ↦ subst IsAlignment (sym e) all.0
]) all.1

abbrev Aligned : Ty → Type 0
Aligned t = IsAlignment (align_of t)

abbrev Child : Type 0
Child = (t : Ty) × Aligned t

aligned-by : (x : Ty-F Ty) → IsAlignment (layout_step (map-Ty Ty Layout layout_of x)).align → Aligned (roll-Ty x)
aligned-by x h =
    let P : Layout → Type 0 = λ l. IsAlignment l.align in
    let Q : Ty-F Ty → Type 0 = λ y. IsAlignment (layout_step (map-Ty Ty Layout layout_of y)).align in
    subst P (sym (level (roll-Ty x))) (subst Q (sym (out-roll-Ty x)) h)

children-aligned : (cs : List Child) → Each (λ (f : Layout). IsAlignment f.align) (map layout_of (map (λ (c : Child). c.0) cs))
children-aligned [] = tt
children-aligned (c ∷ cs) = (c.1, children-aligned cs)

aligned-levels : (y : Ty-F Child) → Aligned (roll-Ty (map-Ty Child Ty (λ c. c.0) y))
aligned-levels (Ty-F.Int w) = aligned-by (Ty-F.Int w) (width-aligned w)
aligned-levels Ty-F.Ptr = aligned-by Ty-F.Ptr (inr (inr (inr refl)))
aligned-levels (Ty-F.Array n c) = aligned-by (Ty-F.Array n c.0) c.1
aligned-levels (Ty-F.Struct cs) = aligned-by (Ty-F.Struct (map (λ (c : Child). c.0) cs))
    (greatest-aligned (map layout_of (map (λ (c : Child). c.0) cs)) 1 (inl refl) (children-aligned cs))

-- the alignment of a type is 1, 2, 4 or 8
pub aligned : (t : Ty) → IsAlignment (align_of t)
aligned = ind-Ty Aligned (λ x y e. subst (λ (x : Ty-F Ty). Aligned (roll-Ty x)) e (aligned-levels y))

pub align-some : (t : Ty) → 0 < align_of t
align-some t = by (align_of t) (aligned t)
  where
    by : (n : ℕ) → IsAlignment n → 0 < n
    by n h = elim h [ inl e ↦ omega arith | inr e ↦ elim e [ inl f ↦ omega arith | inr f ↦ elim f [ inl g ↦ omega arith | inr g ↦ omega arith ] ] ]

-- ---- sizes

most-start : (fs : List Layout) (m : ℕ) → m ≤ fold (λ most (f : Layout). max most f.most) m fs
most-start [] m = omega arith
most-start (f ∷ fs) m = omega (arith, most-start fs (max m f.most))

most-each : (fs : List Ty) (m i : ℕ) (f : Ty) → slice_get fs i ≡ Some f → (layout_of f).most ≤ fold (λ most (f : Layout). max most f.most) m (map layout_of fs)
most-each [] m i f h = cc
most-each (x ∷ xs) m zero f h =
    let same : x ≡ f = cc in
    let e = ap (λ (t : Ty). (layout_of t).most) same in
    omega (arith, most-start (map layout_of xs) (max m (layout_of x).most))
most-each (x ∷ xs) m (suc i) f h = most-each xs (max m (layout_of x).most) i f h

step-most : (x : Ty-F Layout) → (layout_step x).size ≤ (layout_step x).most
step-most (Ty-F.Int w) = omega arith
step-most Ty-F.Ptr = omega arith
step-most (Ty-F.Array n l) = omega arith
step-most (Ty-F.Struct fs) = most-start fs _

pub size-most : (t : Ty) → size_of t ≤ (layout_of t).most
size-most t = let P : Layout → Type 0 = λ l. l.size ≤ l.most in subst P (sym (level t)) (step-most (map-Ty Ty Layout layout_of (out-Ty t)))

abbrev step_of_level : Ty-F Ty → Layout
step_of_level x = layout_step (map-Ty Ty Layout layout_of x)

pub level-is : (t : Ty) (x : Ty-F Ty) → out-Ty t ≡ x → layout_of t ≡ layout_step (map-Ty Ty Layout layout_of x)
level-is t x e = level t ∙ ap step_of_level e

element-most : (t : Ty) (n : ℕ) (u : Ty) → out-Ty t ≡ Ty-F.Array n u → (layout_of u).most ≤ (layout_of t).most
element-most t n u e = let same = ap (λ (l : Layout). l.most) (level-is t (Ty-F.Array n u) e) in omega arith

field-most : (t : Ty) (fs : List Ty) (i : ℕ) (u : Ty) → out-Ty t ≡ Ty-F.Struct fs → slice_get fs i ≡ Some u → (layout_of u).most ≤ (layout_of t).most
field-most t fs i u e h =
    let same = ap (λ (l : Layout). l.most) (level-is t (Ty-F.Struct fs) e) in
    omega (arith, most-each fs (layout_step (Ty-F.Struct (map layout_of fs))).size i u h)

pub small : (defs : TypeDefs) (t : TyText) → is_large defs t ≡ false → (layout_of (expanded defs t)).most ≤ MAX_TYPE_BYTES
small defs t h = grind (arith, nat_tests)

-- ---- the steps of a path

abbrev pub SmallStep : Step → Type 0
SmallStep (scaled size) = size ≤ MAX_TYPE_BYTES
SmallStep (field offset) = Unit {0}

abbrev SmallMaybe : Option Ty → Type 0
SmallMaybe None = Unit {0}
SmallMaybe (Some t) = (layout_of t).most ≤ MAX_TYPE_BYTES

step-small : (defs : TypeDefs) (i : Typed) (t : Ty) → (layout_of t).most ≤ MAX_TYPE_BYTES → (x : Ty-F Ty) → out-Ty t ≡ x → SmallStep (step_of defs i t x)
step-small defs i t h (Ty-F.Int w) e = tt
step-small defs i t h Ty-F.Ptr e = tt
step-small defs i t h (Ty-F.Array n u) e = omega (arith, element-most t n u e, size-most u)
step-small defs i t h (Ty-F.Struct fs) e = tt

field-small : (t : Ty) (fs : List Ty) (n : ℕ) → (layout_of t).most ≤ MAX_TYPE_BYTES → out-Ty t ≡ Ty-F.Struct fs → (o : Option Ty) → slice_get fs n ≡ o
    → SmallMaybe o
field-small t fs n h e None g = tt
field-small t fs n h e (Some u) g = omega (arith, field-most t fs n u e g)

fields-small : (t : Ty) (fs : List Ty) → (layout_of t).most ≤ MAX_TYPE_BYTES → out-Ty t ≡ Ty-F.Struct fs → (o : Option ℕ) → SmallMaybe (field_type fs o)
fields-small t fs h e None = tt
fields-small t fs h e (Some n) = field-small t fs n h e (slice_get fs n) refl

part-small : (defs : TypeDefs) (i : Typed) (t : Ty) → (layout_of t).most ≤ MAX_TYPE_BYTES → (x : Ty-F Ty) → out-Ty t ≡ x → SmallMaybe (part_of defs i x)
part-small defs i t h (Ty-F.Int w) e = tt
part-small defs i t h Ty-F.Ptr e = tt
part-small defs i t h (Ty-F.Array n u) e = omega (arith, element-most t n u e)
part-small defs i t h (Ty-F.Struct fs) e = fields-small t fs h e (field_number (kind_of defs i.0) i.1)

abbrev pub StepFrom : (Typed → Type 0) → Typed × Step → Type 0
StepFrom P p = P p.0 × SmallStep p.1

steps-from : (P : Typed → Type 0) (defs : TypeDefs) (is : List Typed) (t : Option Ty) → Each P is → SmallMaybe t → Each (StepFrom P) (steps_from defs is t)
steps-from P defs [] t all h = tt
steps-from P defs (i ∷ is) None all h = tt
steps-from P defs (i ∷ is) (Some t) all h =
    ((all.0, step-small defs i t h (out-Ty t) refl), steps-from P defs is (part_of defs i (out-Ty t)) all.1 (part-small defs i t h (out-Ty t) refl))

-- each step is by one of the indices, and no size is over the memory
pub steps-each : (P : Typed → Type 0) (defs : TypeDefs) (t : TyText) (is : List Typed) → Each P is → is_large defs t ≡ false
    → Each (StepFrom P) (steps_of defs t is)
steps-each P defs t [] all h = tt
steps-each P defs t (i ∷ is) all h =
    let m = small defs t h in
    ((all.0, omega (arith, size-most (expanded defs t))), steps-from P defs is (Some (expanded defs t)) all.1 m)
