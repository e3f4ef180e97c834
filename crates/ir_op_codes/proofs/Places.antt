-- Where a path goes to, by numbers and by types.
use Rattle.std.proofs.Common.{◌≡◌, ℕ, zero, suc, ◌<◌, ◌≤◌, List, [], ◌∷◌, ◌++◌, map, length, slice_get, Option, Some, None, IfSome, unwrap_or, refl, sym, ap, ◌∙◌, subst, arith, Bor}
use Rattle.std.specs.Option.{option_map, option_copied}
use Rattle.std.specs.Prelude.{slice_index_or}
use Rattle.std.proofs.lemmas.Option.{same_Some}
use Rattle.std.proofs.lemmas.List.{append_assoc}
use Rattle.ir_tree.specs.declared.type_text.TyText.{TyText}
use Rattle.ir_op_codes.specs.declared.paths.Step.{Step}
use Rattle.ir_op_codes.specs.declared.paths.Place.{Place}
use Rattle.am_base.specs.declared.limits.TheConstants.{MAX_TYPE_BYTES}
use Rattle.type_layout.specs.declared.ty.Ty.{Ty, out-Ty}
use Rattle.type_layout.specs.declared.ty.Ty.TheVariants as ty
use Rattle.type_layout.specs.declared.ty.Ty.TheOpen.{Ty-F}
use Rattle.type_layout.specs.Types.{layout_of, size_of, align_of}
use Rattle.type_table.specs.declared.shape.Shape.{Shape}
use Rattle.type_table.specs.declared.shape.Shape.TheVariants.{Int, Ptr, Array, Struct}
use Rattle.type_table.specs.declared.shape.Extent.{Extent}
use Rattle.type_table.specs.Table.{extent_at, extent_of, layer_of, type_at, Within, AreBelow}
use Rattle.ir_rules.specs.Types.{TypeDefs, kind_of, expanded}
use Rattle.ir_rules.specs.Parts.{Typed}
use Rattle.ir_rules.specs.Paths.{part_of, field_number, field_type}
use Rattle.ir_rules.specs.Memory.{steps_from, step_of}
use Rattle.ir_rules.specs.Memory as memory
use Rattle.ir_op_codes.specs.Paths.{meant, with_step, size_in, align_in, offset_in, field_in, part_in, step_in, place_in, rest_of, steps_over, IsSmall, IsRoomy}
use Rattle.ir_op_codes.proofs.Layouts.{element-most, field-most, extent-is}

-- ---- lists

pub none-rest : (defs : TypeDefs) (is : List Typed) → steps_from defs is None ≡ []
none-rest defs [] = refl
none-rest defs (i ∷ is) = refl

abbrev WithinMaybe : ℕ → Option Shape → Type 0
WithinMaybe n None = Unit {0}
WithinMaybe n (Some s) = Within n s

pub within : (n : ℕ) (o : Option (Bor Shape)) → IfSome o (λ s. Within n s.now) → WithinMaybe n (option_copied o)
within n None h = tt
within n (Some s) h = h

found : (ts : List Ty) (n : ℕ) → n < length ts → slice_get ts n ≡ Some (type_at ts n)
found [] n l = absurd (omega arith)
found (t ∷ ts) zero l = refl
found (t ∷ ts) (suc n) l = found ts n (omega arith)

below : (m : ℕ) (is : List ℕ) (k i : ℕ) → AreBelow m is → slice_get is k ≡ Some i → i < m
below m [] k i all h = cc
below m (x ∷ is) zero i all h = let same : x ≡ i = cc in omega (arith, all.0)
below m (x ∷ is) (suc k) i all h = below m is k i all.1 h

mapped : (ts : List Ty) (is : List ℕ) (k : ℕ) (o : Option ℕ) → slice_get is k ≡ o → slice_get (map (type_at ts) is) k ≡ option_map (type_at ts) o
mapped ts [] k o h = ap (option_map (type_at ts)) h
mapped ts (x ∷ is) zero o h = ap (option_map (type_at ts)) h
mapped ts (x ∷ is) (suc k) o h = mapped ts is k o h

read : (xs : List ℕ) (k : ℕ) → unwrap_or (slice_get xs k) 0 ≡ slice_index_or xs k 0
read [] k = refl
read (x ∷ xs) zero = refl
read (x ∷ xs) (suc k) = read xs k

-- ---- extents

extent-at : (ts : List Ty) (n : ℕ) (t : Ty) → slice_get ts n ≡ Some t → (layout_of t).most ≤ MAX_TYPE_BYTES
    → extent_at ts n ≡ Some (record { size = (layout_of t).size; align = (layout_of t).align; offsets = (layout_of t).offsets })
extent-at ts n t h m = rw h (extent-is (layout_of t) m)

pub room-is : (ts tab : List Ty) (n : ℕ) (t : Ty) (o : Option Extent) → tab ≡ ts → slice_get ts n ≡ Some t → (layout_of t).most ≤ MAX_TYPE_BYTES
    → o ≡ extent_at tab n → (size_in o ≡ size_of t) × (align_in o ≡ align_of t)
room-is ts tab n t o same h m e =
    let all = e ∙ ap (λ (xs : List Ty). extent_at xs n) same ∙ extent-at ts n t h m in
    (ap size_in all, ap align_in all)

-- ---- steps

abbrev field_of : TypeDefs → Typed → Option ℕ
field_of defs i = field_number (kind_of defs i.0) i.1

abbrev onward : TypeDefs → Typed → List Typed → Ty → Ty-F Ty → List (Typed × memory.Step)
onward defs i is t x = (i, step_of defs i t x) ∷ steps_from defs is (part_of defs i x)

fields-rest : (defs : TypeDefs) (ts : List Ty) (fields : List ℕ) (is : List Typed) (k : Option ℕ) → AreBelow (length ts) fields
    → steps_from defs is (field_type (map (type_at ts) fields) k) ≡ rest_of defs ts (place_in (field_in fields k)) is
fields-rest defs ts fields is None w = none-rest defs is
fields-rest defs ts fields is (Some j) w = by (slice_get fields j) refl
  where
    by : (o : Option ℕ) → slice_get fields j ≡ o → steps_from defs is (slice_get (map (type_at ts) fields) j) ≡ rest_of defs ts (place_in (slice_get fields j)) is
    by None e = ap (steps_from defs is) (mapped ts fields j None e) ∙ none-rest defs is ∙ ap (λ (o : Option ℕ). rest_of defs ts (place_in o) is) (sym e)
    by (Some a) e =
        ap (steps_from defs is) (mapped ts fields j (Some a) e ∙ sym (found ts a (below (length ts) fields j a w e)))
        ∙ ap (λ (o : Option ℕ). rest_of defs ts (place_in o) is) (sym e)

shape-step : (defs : TypeDefs) (ts : List Ty) (n : ℕ) (i : Typed) (is : List Typed) (t : Ty) → slice_get ts n ≡ Some t → (layout_of t).most ≤ MAX_TYPE_BYTES
    → (s : Shape) → Within (length ts) s → layer_of ts s ≡ out-Ty t
    → onward defs i is t (layer_of ts s) ≡ with_step i (step_in ts n (Some s) (field_of defs i)) (rest_of defs ts (place_in (part_in (Some s) (field_of defs i))) is)
shape-step defs ts n i is t h m (Int w) l e = ap (λ (r : List (Typed × memory.Step)). (i, memory.field 0) ∷ r) (none-rest defs is)
shape-step defs ts n i is t h m Ptr l e = ap (λ (r : List (Typed × memory.Step)). (i, memory.field 0) ∷ r) (none-rest defs is)
shape-step defs ts n i is t h m (Array k a) l e =
    let size : size_in (extent_at ts a) ≡ size_of (type_at ts a) =
    ap size_in (extent-at ts a (type_at ts a) (found ts a l) (omega (arith, element-most t k (type_at ts a) (sym e)))) in
    ap (λ (z : ℕ). (i, memory.scaled z) ∷ steps_from defs is (Some (type_at ts a))) (sym size)
    ∙ ap (λ (o : Option Ty). (i, memory.scaled (size_in (extent_at ts a))) ∷ steps_from defs is o) (sym (found ts a l))
shape-step defs ts n i is t h m (Struct fields) l e =
    let k = field_of defs i in
    let offset : offset_in (extent_at ts n) k ≡ slice_index_or (layout_of t).offsets (unwrap_or k 0) 0 =
    ap (λ (x : Option Extent). offset_in x k) (extent-at ts n t h m) ∙ read (layout_of t).offsets (unwrap_or k 0) in
    ap (λ (z : ℕ). (i, memory.field z) ∷ steps_from defs is (field_type (map (type_at ts) fields) k)) (sym offset)
    ∙ ap (λ (r : List (Typed × memory.Step)). (i, memory.field (offset_in (extent_at ts n) k)) ∷ r) (fields-rest defs ts fields is k l)

at-step : (defs : TypeDefs) (ts : List Ty) (n : ℕ) (i : Typed) (is : List Typed) (o : Option Shape) → option_map (layer_of ts) o ≡ option_map out-Ty (slice_get ts n)
    → WithinMaybe (length ts) o → IsSmall (slice_get ts n)
    → steps_from defs (i ∷ is) (slice_get ts n) ≡ with_step i (step_in ts n o (field_of defs i)) (rest_of defs ts (place_in (part_in o (field_of defs i))) is)
at-step defs ts n i is o e w m = by (slice_get ts n) refl o e w m
  where
    by : (g : Option Ty) → slice_get ts n ≡ g → (o : Option Shape) → option_map (layer_of ts) o ≡ option_map out-Ty g → WithinMaybe (length ts) o → IsSmall g
        → steps_from defs (i ∷ is) g ≡ with_step i (step_in ts n o (field_of defs i)) (rest_of defs ts (place_in (part_in o (field_of defs i))) is)
    by None h None e w m = refl
    by None h (Some s) e w m = cc
    by (Some t) h None e w m = cc
    by (Some t) h (Some s) e w m =
        let same : layer_of ts s ≡ out-Ty t = same_Some (layer_of ts s) (out-Ty t) e in
        ap (onward defs i is t) (sym same) ∙ shape-step defs ts n i is t h m s w same

-- ---- room

fields-roomy : (ts : List Ty) (t : Ty) (fields : List ℕ) (k : Option ℕ) → AreBelow (length ts) fields → (layout_of t).most ≤ MAX_TYPE_BYTES
    → Ty-F.Struct (map (type_at ts) fields) ≡ out-Ty t → IsRoomy ts (place_in (field_in fields k))
fields-roomy ts t fields None w m e = tt
fields-roomy ts t fields (Some j) w m e = by (slice_get fields j) refl
  where
    by : (o : Option ℕ) → slice_get fields j ≡ o → IsRoomy ts (place_in (slice_get fields j))
    by None h = subst (λ (o : Option ℕ). IsRoomy ts (place_in o)) (sym h) tt
    by (Some a) h =
        let r : (layout_of (type_at ts a)).most ≤ MAX_TYPE_BYTES =
        omega (arith, field-most t (map (type_at ts) fields) j (type_at ts a) (sym e) (mapped ts fields j (Some a) h)) in
        subst (λ (o : Option ℕ). IsRoomy ts (place_in o)) (sym h) (subst IsSmall (sym (found ts a (below (length ts) fields j a w h))) r)

shape-roomy : (ts : List Ty) (t : Ty) (s : Shape) (k : Option ℕ) → Within (length ts) s → (layout_of t).most ≤ MAX_TYPE_BYTES → layer_of ts s ≡ out-Ty t
    → IsRoomy ts (place_in (part_in (Some s) k))
shape-roomy ts t (Int v) k w m e = tt
shape-roomy ts t Ptr k w m e = tt
shape-roomy ts t (Array n a) k w m e =
    let r : (layout_of (type_at ts a)).most ≤ MAX_TYPE_BYTES = omega (arith, element-most t n (type_at ts a) (sym e)) in
    subst IsSmall (sym (found ts a w)) r
shape-roomy ts t (Struct fields) k w m e = fields-roomy ts t fields k w m e

at-roomy : (ts : List Ty) (n : ℕ) (o : Option Shape) (k : Option ℕ) → option_map (layer_of ts) o ≡ option_map out-Ty (slice_get ts n)
    → WithinMaybe (length ts) o → IsSmall (slice_get ts n) → IsRoomy ts (place_in (part_in o k))
at-roomy ts n o k e w m = by (slice_get ts n) o e w m
  where
    by : (g : Option Ty) (o : Option Shape) → option_map (layer_of ts) o ≡ option_map out-Ty g → WithinMaybe (length ts) o → IsSmall g
        → IsRoomy ts (place_in (part_in o k))
    by g None e w m = tt
    by None (Some s) e w m = cc
    by (Some t) (Some s) e w m = shape-roomy ts t s k w m (same_Some (layer_of ts s) (out-Ty t) e)

-- ---- one index

pub step-is : (defs : TypeDefs) (ts tab : List Ty) (n : ℕ) (i : Typed) (is : List Typed) (o : Option Shape) (k part : Option ℕ) (step : Option Step) (place : Place)
    → tab ≡ ts → k ≡ field_number (kind_of defs i.0) i.1 → step ≡ step_in tab n o k → part ≡ part_in o k → place ≡ place_in part
    → option_map (layer_of tab) o ≡ option_map out-Ty (slice_get tab n) → WithinMaybe (length tab) o → IsSmall (slice_get ts n)
    → steps_from defs (i ∷ is) (slice_get ts n) ≡ with_step i step (rest_of defs ts place is)
step-is defs ts tab n i is o k part step place same ke se pe le e w m =
    ap (λ (xs : List Ty). steps_from defs (i ∷ is) (slice_get xs n)) (sym same)
    ∙ at-step defs tab n i is o e w (subst (λ (xs : List Ty). IsSmall (slice_get xs n)) (sym same) m)
    ∙ ap (λ (k : Option ℕ). with_step i (step_in tab n o k) (rest_of defs tab (place_in (part_in o k)) is)) (sym ke)
    ∙ ap (λ (s : Option Step). with_step i s (rest_of defs tab (place_in (part_in o k)) is)) (sym se)
    ∙ ap (λ (p : Option ℕ). with_step i step (rest_of defs tab (place_in p) is)) (sym pe)
    ∙ ap (λ (p : Place). with_step i step (rest_of defs tab p is)) (sym le)
    ∙ ap (λ (xs : List Ty). with_step i step (rest_of defs xs place is)) same

pub roomy-is : (ts tab : List Ty) (n : ℕ) (o : Option Shape) (k part : Option ℕ) (place : Place) → tab ≡ ts → part ≡ part_in o k → place ≡ place_in part
    → option_map (layer_of tab) o ≡ option_map out-Ty (slice_get tab n) → WithinMaybe (length tab) o → IsSmall (slice_get ts n) → IsRoomy ts place
roomy-is ts tab n o k part place same pe le e w m =
    let base = at-roomy tab n o k e w (subst (λ (xs : List Ty). IsSmall (slice_get xs n)) (sym same) m) in
    subst (λ (xs : List Ty). IsRoomy xs place) same (subst (IsRoomy tab) (sym (le ∙ ap place_in pe)) base)

-- ---- a path

front : (i : Typed) (s : Option Step) (rest : List (Typed × memory.Step)) → with_step i s rest ≡ with_step i s [] ++ rest
front i None rest = refl
front i (Some s) rest = refl

pub path-more : (i : Typed) (s : Option Step) (ms new before after total : List (Typed × memory.Step)) → new ≡ ms ++ with_step i s [] → before ≡ with_step i s after
    → ms ++ before ≡ total → new ++ after ≡ total
path-more i s ms new before after total added here known =
    ap (λ (l : List (Typed × memory.Step)). l ++ after) added ∙ append_assoc ms (with_step i s []) after
    ∙ ap (λ (l : List (Typed × memory.Step)). ms ++ l) (sym (front i s after) ∙ sym here) ∙ known

pub steps-are : (defs : TypeDefs) (of : TyText) (is : List Typed) → steps_over defs is (Some (expanded defs of)) ≡ memory.steps_of defs of is
steps-are defs of [] = refl
steps-are defs of (i ∷ is) = refl
