-- What holds of the level of a type by number holds of the type.
use Rattle.std.proofs.Common.{Bor, ◌≡◌, ℕ, zero, suc, ◌<◌, nat_eq, List, [], ◌∷◌, length, map, Option, Some, None, slice_get, IfSome}
use Rattle.std.proofs.Common.{refl, sym, ap, ◌∙◌, subst}
use Rattle.std.specs.Option.{option_copied}
use Rattle.std.proofs.lemmas.List.{length-map}
use Rattle.type_layout.specs.declared.ty.Ty.{Ty, out-Ty}
use Rattle.type_table.specs.declared.shape.Shape.{Shape}
use Rattle.type_table.specs.declared.shape.Shape.TheVariants.{Int, Ptr, Array, Struct}
use Rattle.type_table.specs.Table.{type_at, layer_of, AreBelow, Within}
use Rattle.ir_rules.specs.Initialisers.{text_fits}
use Rattle.ir_type_rules.specs.Walk.{typed_at}
use Rattle.ir_init_rules.specs.Levels.{is_array_of, is_struct_of, part_type, array_level, struct_level, text_level, part_level}
use Rattle.ir_init_rules.proofs.Structures.{some-at, IsLevel, level-at}

text-layer : (ts : List Ty) (s : List ℕ) (r : Shape) → text_level ts (length s) (Some r) ≡ text_fits s (layer_of ts r)
text-layer ts s (Int w) = refl
text-layer ts s Ptr = refl
text-layer ts s (Array n of) = refl
text-layer ts s (Struct is) = refl

array-layer : (ts : List Ty) (k : ℕ) (r : Shape) → array_level k (Some r) ≡ is_array_of k (layer_of ts r)
array-layer ts k (Int w) = refl
array-layer ts k Ptr = refl
array-layer ts k (Array n of) = refl
array-layer ts k (Struct is) = refl

struct-layer : (ts : List Ty) (k : ℕ) (r : Shape) → struct_level k (Some r) ≡ is_struct_of k (layer_of ts r)
struct-layer ts k (Int w) = refl
struct-layer ts k Ptr = refl
struct-layer ts k (Array n of) = refl
struct-layer ts k (Struct is) = ap (nat_eq k) (sym (length-map is (type_at ts)))

field-layer : (ts : List Ty) (is : List ℕ) (k : ℕ) → AreBelow (length ts) is → typed_at ts (slice_get is k) ≡ slice_get (map (type_at ts) is) k
field-layer ts [] k h = cc
field-layer ts (i ∷ is) zero h = some-at ts i h.0
field-layer ts (i ∷ is) (suc k) h = field-layer ts is k h.1

part-layer : (ts : List Ty) (k : ℕ) (r : Shape) → Within (length ts) r → typed_at ts (part_level k (Some r)) ≡ part_type (layer_of ts r) k
part-layer ts k (Int w) h = refl
part-layer ts k Ptr h = refl
part-layer ts k (Array n of) h = some-at ts of h
part-layer ts k (Struct is) h = field-layer ts is k h

module _ (ts : List Ty) (n : ℕ) (o : Option Shape) (h : n < length ts) (e : IsLevel ts n o) where
  pub text-found : (s : List ℕ) → text_level ts (length s) o ≡ text_fits s (out-Ty (type_at ts n))
  text-found s = let p = level-at ts n o h e in ap (text_level ts (length s)) p.1 ∙ text-layer ts s p.0 ∙ ap (text_fits s) p.2

  pub array-found : (k : ℕ) → array_level k o ≡ is_array_of k (out-Ty (type_at ts n))
  array-found k = let p = level-at ts n o h e in ap (array_level k) p.1 ∙ array-layer ts k p.0 ∙ ap (is_array_of k) p.2

  pub struct-found : (k : ℕ) → struct_level k o ≡ is_struct_of k (out-Ty (type_at ts n))
  struct-found k = let p = level-at ts n o h e in ap (struct_level k) p.1 ∙ struct-layer ts k p.0 ∙ ap (is_struct_of k) p.2

  pub part-found : (k : ℕ) → IfSome o (Within (length ts)) → typed_at ts (part_level k o) ≡ part_type (out-Ty (type_at ts n)) k
  part-found k w =
      let p = level-at ts n o h e in
      ap (λ o. typed_at ts (part_level k o)) p.1 ∙ part-layer ts k p.0 (subst (λ (o : Option Shape). IfSome o (Within (length ts))) p.1 w)
      ∙ ap (λ x. part_type x k) p.2

place-within : (n : ℕ) (is : List ℕ) (k : ℕ) → AreBelow n is → IfSome (slice_get is k) (λ m. m < n)
place-within n [] k h = tt
place-within n (i ∷ is) zero h = h.0
place-within n (i ∷ is) (suc k) h = place-within n is k h.1

pub part-within : (n k : ℕ) (o : Option Shape) → IfSome o (Within n) → IfSome (part_level k o) (λ m. m < n)
part-within n k None h = tt
part-within n k (Some (Int w)) h = tt
part-within n k (Some Ptr) h = tt
part-within n k (Some (Array m of)) h = h
part-within n k (Some (Struct is)) h = place-within n is k h

-- what is lent
pub within-copied : (n : ℕ) (r : Option (Bor Shape)) → IfSome r (λ s. Within n s.now) → IfSome (option_copied r) (Within n)
within-copied n None h = tt
within-copied n (Some s) h = h
