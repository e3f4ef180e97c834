-- What a table of types has at a number.
use Rattle.std.proofs.Common.{◌≡◌, ℕ, zero, suc, ◌+◌, ◌<◌, ◌≤◌, Bool, true, false, not, List, [], ◌∷◌, ◌++◌, length, map, Option, Some, None, slice_get, unwrap_or}
use Rattle.std.proofs.Common.{if◌then◌else◌, IfSome, Bor, refl, sym, ap, ◌∙◌, subst, arith, length-append}
use Rattle.std.proofs.lemmas.List.{map-append}
use Rattle.std.specs.List.{fold, list_any}
use Rattle.std.specs.Option.{option_copied, option_map}
use Rattle.std.proofs.lemmas.Option.{slice_get_within, slice_get_past, slice_get-map}
use Rattle.std.proofs.lemmas.List.Sums.{fold_push}
use Rattle.indexmap.specs.IndexSet.{insert_key}
use Rattle.type_layout.specs.declared.ty.Ty.{Ty, out-Ty, out-roll-Ty}
use Rattle.type_layout.specs.declared.ty.Ty.TheVariants as ty
use Rattle.type_layout.specs.declared.ty.Ty.TheOpen.{Ty-F}
use Rattle.type_table.specs.declared.shape.Shape.{Shape}
use Rattle.type_table.specs.declared.shape.Shape.TheVariants.{Int, Ptr, Array, Struct}
use Rattle.type_table.specs.declared.shape.Extent.{Extent}
use Rattle.type_table.specs.Table.{type_at, layer_of, ty_of, AreBelow, Within, Keeps, extent_of, flat, with_shape, types_of, AreOrdered}
use Rattle.type_table.specs.Extents.{extent_in, extent_by, no_fields, with_field, ended, array_extent}
use Rattle.type_table.proofs.Layouts.{struct-extent, array-extent, int-extent, ptr-extent}

-- ---- lists

slice-left : {X : Type 0} (xs ys : List X) (n : ℕ) (x : X) → slice_get xs n ≡ Some x → slice_get (xs ++ ys) n ≡ Some x
slice-left [] ys n x h = cc
slice-left (y ∷ xs) ys zero x h = h
slice-left (y ∷ xs) ys (suc n) x h = slice-left xs ys n x h

slice-last : {X : Type 0} (xs : List X) (x : X) (n : ℕ) → n ≡ length xs → slice_get (xs ++ x ∷ []) n ≡ Some x
slice-last [] x zero h = refl
slice-last [] x (suc n) h = absurd (omega arith)
slice-last (y ∷ xs) x zero h = absurd (omega arith)
slice-last (y ∷ xs) x (suc n) h = slice-last xs x n (omega arith)

pub there : {X : Type 0} (xs : List X) (n : ℕ) → n < length xs → (x : X) × (slice_get xs n ≡ Some x)
there [] n h = absurd (omega arith)
there (x ∷ xs) zero h = (x, refl)
there (x ∷ xs) (suc n) h = there xs n (omega arith)

past : {X : Type 0} (xs : List X) (n : ℕ) → slice_get xs n ≡ None → length xs ≤ n
past [] n h = omega arith
past (x ∷ xs) zero h = cc
past (x ∷ xs) (suc n) h = let p = past xs n h in omega arith

-- ---- types that stay

module _ (ts us : List Ty) (keeps : Keeps ts us) where
  pub type-kept : (i : ℕ) → i < length ts → type_at us i ≡ type_at ts i
  type-kept i h = let p = there ts i h in ap (λ o. unwrap_or o (ty.Struct [])) (keeps i p.0 p.1 ∙ sym p.1)

  pub types-kept : (is : List ℕ) → AreBelow (length ts) is → map (type_at us) is ≡ map (type_at ts) is
  types-kept [] h = refl
  types-kept (i ∷ is) h = λ j. type-kept i h.0 j ∷ types-kept is h.1 j

  pub ty-kept : (s : Shape) → Within (length ts) s → ty_of us s ≡ ty_of ts s
  ty-kept (Int w) h = refl
  ty-kept Ptr h = refl
  ty-kept (Array n i) h = ap (ty.Array n) (type-kept i h)
  ty-kept (Struct is) h = ap ty.Struct (types-kept is h)

below-more : (is : List ℕ) (m n : ℕ) → AreBelow m is → m ≤ n → AreBelow n is
below-more [] m n h k = tt
below-more (i ∷ is) m n h k = (let p = h.0 in omega arith, below-more is m n h.1 k)

pub within-more : (s : Shape) (m n : ℕ) → Within m s → m ≤ n → Within n s
within-more (Int w) m n h k = tt
within-more Ptr m n h k = tt
within-more (Array l i) m n h k = omega arith
within-more (Struct is) m n h k = below-more is m n h k

-- ---- a table that grows

grows : (ss : List Shape) (ts : List Ty) → Keeps ts (fold with_shape ts ss)
grows [] ts n t h = h
grows (s ∷ ss) ts n t h = grows ss (with_shape ts s) n t (slice-left ts (ty_of ts s ∷ []) n t h)

length-from : (ss : List Shape) (ts : List Ty) → length (fold with_shape ts ss) ≡ length ts + length ss
length-from [] ts = omega arith
length-from (s ∷ ss) ts = let h = length-from ss (with_shape ts s) in let k = length-append ts (ty_of ts s ∷ []) in omega arith

pub length-types : (ss : List Shape) → length (types_of ss) ≡ length ss
length-types ss = let h = length-from ss [] in omega arith

found-from : (ss : List Shape) (ts : List Ty) (m n k : ℕ) (s : Shape) → m ≡ length ts → k ≡ m + n → AreOrdered m ss → slice_get ss n ≡ Some s
    → (slice_get (fold with_shape ts ss) k ≡ Some (ty_of (fold with_shape ts ss) s)) × Within k s
found-from [] ts m n k s e f o h = cc
found-from (x ∷ ss) ts m zero k s e f o h =
    let same : x ≡ s = cc in
    let place : k ≡ length ts = omega arith in
    let first : m ≡ k = omega arith in
    let here : Within (length ts) x = subst (λ n. Within n x) e o.0 in
    let at = grows ss (with_shape ts x) k (ty_of ts x) (slice-last ts (ty_of ts x) k place) in (
      at ∙ ap Some (sym (ty-kept ts (fold with_shape ts (x ∷ ss)) (grows (x ∷ ss) ts) x here) ∙ ap (ty_of (fold with_shape ts (x ∷ ss))) same),
      subst (Within k) same (subst (λ n. Within n x) first o.0),
    )
found-from (x ∷ ss) ts m (suc n) k s e f o h =
    found-from ss (with_shape ts x) (m + 1) n k s (let l = length-append ts (ty_of ts x ∷ []) in omega arith) (omega arith) o.1 h

pub found : (ss : List Shape) (n : ℕ) (s : Shape) → AreOrdered 0 ss → slice_get ss n ≡ Some s
    → (slice_get (types_of ss) n ≡ Some (ty_of (types_of ss) s)) × Within n s
found ss n s o h = found-from ss [] 0 n n s refl (omega arith) o h

ordered-push : (ss : List Shape) (m k : ℕ) (s : Shape) → AreOrdered m ss → k ≡ m + length ss → Within k s → AreOrdered m (ss ++ s ∷ [])
ordered-push [] m k s o e w = let same : k ≡ m = omega arith in (subst (λ n. Within n s) same w, tt)
ordered-push (x ∷ ss) m k s o e w = (o.0, ordered-push ss (m + 1) k s o.1 (omega arith) w)

-- ---- one level

layer-out : (ts : List Ty) (s : Shape) → out-Ty (ty_of ts s) ≡ layer_of ts s
layer-out ts (Int w) = ap out-Ty (sym (ty.rolls-Int w)) ∙ out-roll-Ty (Ty-F.Int w)
layer-out ts Ptr = ap out-Ty (sym ty.rolls-Ptr) ∙ out-roll-Ty Ty-F.Ptr
layer-out ts (Array n i) = ap out-Ty (sym (ty.rolls-Array n (type_at ts i))) ∙ out-roll-Ty (Ty-F.Array n (type_at ts i))
layer-out ts (Struct is) = ap out-Ty (sym (ty.rolls-Struct (map (type_at ts) is))) ∙ out-roll-Ty (Ty-F.Struct (map (type_at ts) is))

pub shape-found : (ss : List Shape) (n : ℕ) (o : Option Shape) → AreOrdered 0 ss → o ≡ slice_get ss n
    → option_map (layer_of (types_of ss)) o ≡ option_map out-Ty (slice_get (types_of ss) n)
shape-found ss n None o e =
    let behind : length (types_of ss) ≤ n = let p = past ss n (sym e) in let l = length-types ss in omega arith in
    sym (ap (option_map out-Ty) (slice_get_past (types_of ss) n behind))
shape-found ss n (Some s) o e =
    let p = found ss n s o (sym e) in ap Some (sym (layer-out (types_of ss) s)) ∙ sym (ap (option_map out-Ty) p.0)

pub shape-within : (ss : List Shape) (n : ℕ) (r : Option (Bor Shape)) → AreOrdered 0 ss → option_copied r ≡ slice_get ss n
    → IfSome r (λ s. Within (length (types_of ss)) s.now)
shape-within ss n None o e = tt
shape-within ss n (Some s) o e =
    let p = found ss n s.now o (sym e) in
    let l = length-types ss in
    let k = slice_get_within ss n s.now (sym e) in
    within-more s.now n (length (types_of ss)) p.1 (omega arith)

-- ---- one more type

module _ (eq : Shape → Shape → Bool) (ss new : List Shape) (s : Shape) (e : new ≡ insert_key eq ss s) where
  abbrev grown : Bool → List Shape
  grown b = if b then ss else ss ++ s ∷ []

  pub keeps-insert : Keeps (types_of ss) (types_of new)
  keeps-insert = by (list_any (eq s) ss) e
    where
      by : (b : Bool) → new ≡ grown b → Keeps (types_of ss) (types_of new)
      by true p n t h = ap (λ (l : List Shape). slice_get (types_of l) n) p ∙ h
      by false p n t h =
          ap (λ (l : List Shape). slice_get (types_of l) n) p ∙ ap (λ (l : List Ty). slice_get l n) (fold_push with_shape [] ss s)
          ∙ slice-left (types_of ss) (ty_of (types_of ss) s ∷ []) n t h

  pub ordered-insert : AreOrdered 0 ss → Within (length (types_of ss)) s → AreOrdered 0 new
  ordered-insert o w = by (list_any (eq s) ss) e
    where
      by : (b : Bool) → new ≡ grown b → AreOrdered 0 new
      by true p = subst (AreOrdered 0) (sym p) o
      by false p = subst (AreOrdered 0) (sym p) (ordered-push ss 0 (length (types_of ss)) s o (let l = length-types ss in omega arith) w)

  pub few-insert : length (types_of new) ≤ length (types_of ss) + 1
  few-insert = by (list_any (eq s) ss) e
    where
      by : (b : Bool) → new ≡ grown b → length (types_of new) ≤ length (types_of ss) + 1
      by true p = let l = ap (λ (l : List Shape). length (types_of l)) p in omega arith
      by false p =
          let l = ap (λ (l : List Shape). length (types_of l)) p in
          let m = length-types (ss ++ s ∷ []) in
          let k = length-types ss in
          let n = length-append ss (s ∷ []) in omega arith

  -- the number of an equal shape is that of the type
  pub numbered : (n : ℕ) (k : Shape) → AreOrdered 0 ss → Within (length (types_of ss)) s → s ≡ k → slice_get new n ≡ Some k
      → slice_get (types_of new) n ≡ Some (ty_of (types_of ss) s)
  numbered n k o w same h =
      (found new n k (ordered-insert o w) h).0
      ∙ ap (λ x. Some (ty_of (types_of new) x)) (sym same)
      ∙ ap Some (ty-kept (types_of ss) (types_of new) keeps-insert s w)

  pub extents-insert : (old now : List (Option Extent)) (x : Option Extent) (added : Bool) → added ≡ not (list_any (eq s) ss)
      → now ≡ (if added then old ++ x ∷ [] else old) → old ≡ map extent_of (types_of ss) → x ≡ extent_of (ty_of (types_of ss) s)
      → now ≡ map extent_of (types_of new)
  extents-insert old now x added a n o q = by (list_any (eq s) ss) e a
    where
      by : (b : Bool) → new ≡ grown b → added ≡ not b → now ≡ map extent_of (types_of new)
      by true p r = n ∙ ap (λ c. if c then old ++ x ∷ [] else old) r ∙ o ∙ sym (ap (λ (l : List Shape). map extent_of (types_of l)) p)
      by false p r =
          n ∙ ap (λ c. if c then old ++ x ∷ [] else old) r ∙ (λ i. o i ++ q i ∷ [])
          ∙ sym (map-append extent_of (types_of ss) (ty_of (types_of ss) s ∷ []))
          ∙ sym (ap (map extent_of) (fold_push with_shape [] ss s)) ∙ sym (ap (λ (l : List Shape). map extent_of (types_of l)) p)

-- ---- room

extent-found : (ts : List Ty) (i : ℕ) → i < length ts → extent_in (map extent_of ts) i ≡ extent_of (type_at ts i)
extent-found ts i h =
    let p = there ts i h in
    ap flat (slice_get-map extent_of ts i ∙ ap (option_map extent_of) p.1) ∙ ap (λ o. extent_of (unwrap_or o (ty.Struct []))) (sym p.1)

extents-found : (ts : List Ty) (is : List ℕ) → AreBelow (length ts) is → map (extent_in (map extent_of ts)) is ≡ map extent_of (map (type_at ts) is)
extents-found ts [] h = refl
extents-found ts (i ∷ is) h = λ j. extent-found ts i h.0 j ∷ extents-found ts is h.1 j

-- the room of a type by the room of its parts
pub extent-exact : (ts : List Ty) (es : List (Option Extent)) (s : Shape) → es ≡ map extent_of ts → Within (length ts) s
    → extent_by es s ≡ extent_of (ty_of ts s)
extent-exact ts es s e w = ap (λ l. extent_by l s) e ∙ by s w
  where
    by : (s : Shape) → Within (length ts) s → extent_by (map extent_of ts) s ≡ extent_of (ty_of ts s)
    by (Int w) h = int-extent w
    by Ptr h = ptr-extent
    by (Array n i) h = ap (array_extent n) (extent-found ts i h) ∙ array-extent n (type_at ts i)
    by (Struct is) h =
        ap (λ l. ended (fold with_field (Some no_fields) l)) (extents-found ts is h) ∙ struct-extent (map (type_at ts) is)
