-- Types by number are of one structure where their first levels are.
use Rattle.std.proofs.Common.{◌≡◌, ℕ, zero, suc, ◌+◌, ◌<◌, ◌≤◌, Bool, true, ◌&&◌, List, [], ◌∷◌, length, map, get_or, Option, Some, None}
use Rattle.std.proofs.Common.{slice_get, unwrap_or, refl, sym, ap, ◌∙◌, subst, arith}
use Rattle.std.specs.Option.{option_map}
use Rattle.std.proofs.lemmas.Bool.{eq-eqb}
use Rattle.std.proofs.lemmas.Option.{same_Some}
use Rattle.am_base.specs.declared.word.Width.{Width}
use Rattle.am_base.specs.declared.word.Width.TheVariants.{W1, W8, W16, W32, W64}
use Rattle.type_layout.specs.declared.ty.Ty.{Ty, roll-Ty, out-Ty, map-Ty, roll-out-Ty, out-roll-Ty}
use Rattle.type_layout.specs.declared.ty.Ty.TheVariants as ty
use Rattle.type_layout.specs.declared.ty.Ty.TheOpen.{Ty-F}
use Rattle.type_layout.specs.declared.ty.Ty.TheFolds.{fold-Ty, ind-Ty, fold-roll-Ty}
use Rattle.type_table.specs.declared.shape.Shape.{Shape}
use Rattle.type_table.specs.declared.shape.Shape.TheVariants.{Int, Ptr, Array, Struct}
use Rattle.type_table.specs.Table.{type_at, layer_of, AreBelow}
use Rattle.type_table.proofs.Tables.{there}
use Rattle.ir_rules.specs.Types.{same_width, all_agree}
use Rattle.ir_rules.specs.Initialisers.{same_type, same_type_step}
use Rattle.ir_init_rules.specs.Same.{same_at, same_parts, same_levels}
use Rattle.ir_init_rules.proofs.Lists.{both}

-- ---- one level of a type

abbrev same_layers : Ty-F Ty → Ty-F Ty → Bool
same_layers x y = same_type_step (map-Ty Ty (Ty → Bool) same_type x) y

rolled : (x : Ty-F Ty) (u : Ty) → same_type (roll-Ty x) u ≡ same_layers x (out-Ty u)
unfolding same_type
rolled x u = λ i. fold-roll-Ty (Ty → Bool) (λ (x : Ty-F (Ty → Bool)) (u : Ty). same_type_step x (out-Ty u)) x i u

same-out : (t u : Ty) → same_type t u ≡ same_layers (out-Ty t) (out-Ty u)
same-out t u = ap (λ t. same_type t u) (sym (roll-out-Ty t)) ∙ rolled (out-Ty t) u

-- ---- a type is of its own structure

abbrev Own : Ty → Type 0
Own t = same_type t t ≡ true

abbrev Child : Type 0
Child = (t : Ty) × Own t

parts-own : (cs : List Child) → all_agree (map same_type (map (λ (c : Child). c.0) cs)) (map (λ (c : Child). c.0) cs) ≡ true
parts-own [] = refl
parts-own (c ∷ cs) = both c.1 (parts-own cs)

width-own : (w : Width) → same_width w w ≡ true
width-own W1 = refl
width-own W8 = refl
width-own W16 = refl
width-own W32 = refl
width-own W64 = refl

layer-own : (y : Ty-F Child) → same_layers (map-Ty Child Ty (λ c. c.0) y) (map-Ty Child Ty (λ c. c.0) y) ≡ true
layer-own (Ty-F.Int w) = width-own w
layer-own Ty-F.Ptr = refl
layer-own (Ty-F.Array n c) = both (eq-eqb n n refl) c.1
layer-own (Ty-F.Struct cs) = parts-own cs

level-own : (y : Ty-F Child) → Own (roll-Ty (map-Ty Child Ty (λ c. c.0) y))
level-own y =
    let x = map-Ty Child Ty (λ (c : Child). c.0) y in
    rolled x (roll-Ty x) ∙ ap (same_layers x) (out-roll-Ty x) ∙ layer-own y

pub same-own : (t : Ty) → same_type t t ≡ true
same-own = ind-Ty Own (λ x y e. subst (λ (x : Ty-F Ty). Own (roll-Ty x)) e (level-own y))

-- ---- types by number

pub some-at : (ts : List Ty) (i : ℕ) → i < length ts → slice_get ts i ≡ Some (type_at ts i)
some-at ts i h = let p = there ts i h in p.1 ∙ ap (λ o. Some (unwrap_or o (ty.Struct []))) (sym p.1)

agree-mapped : (ts : List Ty) (is js : List ℕ) → same_parts ts is js ≡ all_agree (map same_type (map (type_at ts) is)) (map (type_at ts) js)
agree-mapped ts [] [] = refl
agree-mapped ts [] (j ∷ js) = refl
agree-mapped ts (i ∷ is) [] = refl
agree-mapped ts (i ∷ is) (j ∷ js) = ap (λ b. same_at ts i j && b) (agree-mapped ts is js)

levels-layers : (ts : List Ty) (s r : Shape) → same_levels ts s r ≡ same_layers (layer_of ts s) (layer_of ts r)
levels-layers ts (Int v) (Int w) = refl
levels-layers ts (Int v) Ptr = refl
levels-layers ts (Int v) (Array n j) = refl
levels-layers ts (Int v) (Struct js) = refl
levels-layers ts Ptr (Int w) = refl
levels-layers ts Ptr Ptr = refl
levels-layers ts Ptr (Array n j) = refl
levels-layers ts Ptr (Struct js) = refl
levels-layers ts (Array m i) (Int w) = refl
levels-layers ts (Array m i) Ptr = refl
levels-layers ts (Array m i) (Array n j) = refl
levels-layers ts (Array m i) (Struct js) = refl
levels-layers ts (Struct is) (Int w) = refl
levels-layers ts (Struct is) Ptr = refl
levels-layers ts (Struct is) (Array n j) = refl
levels-layers ts (Struct is) (Struct js) = agree-mapped ts is js

-- what `shape` says of a number that is in the table
abbrev pub IsLevel : List Ty → ℕ → Option Shape → Type 0
IsLevel ts n o = option_map (layer_of ts) o ≡ option_map out-Ty (slice_get ts n)

-- the level of a type that is there
pub level-at : (ts : List Ty) (n : ℕ) (o : Option Shape) → n < length ts → IsLevel ts n o → (s : Shape) × (o ≡ Some s) × (layer_of ts s ≡ out-Ty (type_at ts n))
level-at ts n None h e = let p = e ∙ ap (option_map out-Ty) (some-at ts n h) in cc
level-at ts n (Some s) h e = let p = e ∙ ap (option_map out-Ty) (some-at ts n h) in (s, refl, same_Some (layer_of ts s) (out-Ty (type_at ts n)) p)

pub layer-at : (ts : List Ty) (n : ℕ) (s : Shape) → n < length ts → IsLevel ts n (Some s) → layer_of ts s ≡ out-Ty (type_at ts n)
layer-at ts n s h e = same_Some (layer_of ts s) (out-Ty (type_at ts n)) (e ∙ ap (option_map out-Ty) (some-at ts n h))

pub no-level : (ts : List Ty) (n : ℕ) → n < length ts → IsLevel ts n None → ⊥
no-level ts n h e = let p = e ∙ ap (option_map out-Ty) (some-at ts n h) in cc

pub same-found : (ts : List Ty) (m n : ℕ) (s r : Shape) → m < length ts → n < length ts → IsLevel ts m (Some s) → IsLevel ts n (Some r)
    → same_levels ts s r ≡ same_at ts m n
same-found ts m n s r h k e f =
    let p = layer-at ts m s h e in
    let q = layer-at ts n r k f in
    levels-layers ts s r ∙ (λ i. same_layers (p i) (q i)) ∙ sym (same-out (type_at ts m) (type_at ts n))

-- ---- how many levels there are in a type

abbrev sum_of : List ℕ → ℕ
sum_of [] = 0
sum_of (n ∷ ns) = n + sum_of ns

abbrev levels_step : Ty-F ℕ → ℕ
levels_step (Ty-F.Int w) = 0
levels_step Ty-F.Ptr = 0
levels_step (Ty-F.Array n k) = suc k
levels_step (Ty-F.Struct ks) = suc (sum_of ks)

pub levels : Ty → ℕ
levels = fold-Ty ℕ levels_step

levels_in : Ty-F Ty → ℕ
levels_in x = levels_step (map-Ty Ty ℕ levels x)

-- of the type with a number, and of those with the numbers of a list
pub levels_at : List Ty → ℕ → ℕ
levels_at ts i = levels (type_at ts i)

pub levels_of : List Ty → List ℕ → ℕ
levels_of ts [] = 0
levels_of ts (i ∷ is) = levels_at ts i + levels_of ts is

pub levels_below : List Ty → Shape → ℕ
levels_below ts (Int w) = 0
levels_below ts Ptr = 0
levels_below ts (Array n i) = suc (levels_at ts i)
levels_below ts (Struct is) = suc (levels_of ts is)

pub below-Array : (ts : List Ty) (s : Shape) (n i : ℕ) → s ≡ Array n i → levels_below ts s ≡ suc (levels_at ts i)
unfolding levels_below
below-Array ts s n i e = ap (levels_below ts) e

pub below-Struct : (ts : List Ty) (s : Shape) (is : List ℕ) → s ≡ Struct is → levels_below ts s ≡ suc (levels_of ts is)
unfolding levels_below
below-Struct ts s is e = ap (levels_below ts) e

levels-listed : (ts : List Ty) (is : List ℕ) → levels_of ts is ≡ sum_of (map levels (map (type_at ts) is))
unfolding levels_of levels_at
levels-listed ts [] = refl
levels-listed ts (i ∷ is) = ap (λ k. levels (type_at ts i) + k) (levels-listed ts is)

levels-shape : (ts : List Ty) (s : Shape) → levels_below ts s ≡ levels_in (layer_of ts s)
unfolding levels_below levels_in levels_at
levels-shape ts (Int w) = refl
levels-shape ts Ptr = refl
levels-shape ts (Array n i) = refl
levels-shape ts (Struct is) = ap suc (levels-listed ts is)

levels-out : (t : Ty) → levels t ≡ levels_in (out-Ty t)
unfolding levels levels_in
levels-out t = ap levels (sym (roll-out-Ty t)) ∙ fold-roll-Ty ℕ levels_step (out-Ty t)

pub levels-found : (ts : List Ty) (n : ℕ) (s : Shape) → n < length ts → IsLevel ts n (Some s) → levels_below ts s ≡ levels_at ts n
unfolding levels_at
levels-found ts n s h e = levels-shape ts s ∙ ap levels_in (layer-at ts n s h e) ∙ sym (levels-out (type_at ts n))

pub levels-part : (ts : List Ty) (is : List ℕ) (k : ℕ) → k < length is → levels_at ts (get_or is k 0) ≤ levels_of ts is
unfolding levels_of
levels-part ts [] k h = absurd (omega arith)
levels-part ts (i ∷ is) zero h = omega arith
levels-part ts (i ∷ is) (suc k) h = let more = levels-part ts is k (omega arith) in omega arith

pub below-part : (n : ℕ) (is : List ℕ) (k : ℕ) → AreBelow n is → k < length is → get_or is k 0 < n
below-part n [] k a h = absurd (omega arith)
below-part n (i ∷ is) zero a h = a.0
below-part n (i ∷ is) (suc k) a h = below-part n is k a.1 (omega arith)
