-- A walk along the indices of a path is the one over types.
use Rattle.std.proofs.Common.{◌≡◌, ℕ, zero, suc, ◌<◌, ◌≤◌, Bool, false, not, List, [], ◌∷◌, length, map, drop, Option, Some, None, slice_get, unwrap_or, is_some}
use Rattle.std.proofs.Common.{IfSome, Bor, refl, sym, ap, ◌∙◌, arith, ℤ}
use Rattle.std.specs.List.{fold}
use Rattle.std.specs.Option.{option_copied, option_map}
use Rattle.type_layout.specs.declared.ty.Ty.{Ty, out-Ty}
use Rattle.type_layout.specs.declared.ty.Ty.TheOpen.{Ty-F}
use Rattle.type_layout.specs.declared.ty.Ty.TheVariants as ty
use Rattle.type_table.specs.declared.shape.Shape.{Shape}
use Rattle.type_table.specs.declared.shape.Shape.TheVariants.{Int, Ptr, Array, Struct}
use Rattle.type_table.specs.Table.{type_at, layer_of, AreBelow, Within}
use Rattle.type_table.proofs.Tables.{there}
use Rattle.ir_tree.specs.declared.type_text.TyText.{TyText}
use Rattle.ir_rules.specs.Types.{TypeDefs, kind_of, expanded}
use Rattle.ir_rules.specs.Parts.{Typed}
use Rattle.ir_rules.specs.Paths.{part_of, field_type, field_number, goes_into, no_path, index_operand}
use Rattle.ir_type_rules.specs.Walk.{typed_at, field_in, part_in, next_type}

some-at : (ts : List Ty) (i : ℕ) → i < length ts → slice_get ts i ≡ Some (type_at ts i)
some-at ts i h = let p = there ts i h in p.1 ∙ ap (λ o. Some (unwrap_or o (ty.Struct []))) (sym p.1)

field-at : (ts : List Ty) (is : List ℕ) (n : ℕ) → AreBelow (length ts) is → typed_at ts (slice_get is n) ≡ slice_get (map (type_at ts) is) n
field-at ts [] n h = cc
field-at ts (i ∷ is) zero h = some-at ts i h.0
field-at ts (i ∷ is) (suc n) h = field-at ts is n h.1

fields-at : (ts : List Ty) (is : List ℕ) (f : Option ℕ) → AreBelow (length ts) is → typed_at ts (field_in is f) ≡ field_type (map (type_at ts) is) f
fields-at ts is None h = refl
fields-at ts is (Some n) h = field-at ts is n h

part-at : (defs : TypeDefs) (i : Typed) (ts : List Ty) (s : Shape) (t : Ty) → layer_of ts s ≡ out-Ty t → Within (length ts) s
    → typed_at ts (part_in (field_number (kind_of defs i.0) i.1) (Some s)) ≡ part_of defs i (out-Ty t)
part-at defs i ts (Int w) t h k = ap (part_of defs i) h
part-at defs i ts Ptr t h k = ap (part_of defs i) h
part-at defs i ts (Array n of) t h k = some-at ts of k ∙ ap (part_of defs i) h
part-at defs i ts (Struct is) t h k = fields-at ts is (field_number (kind_of defs i.0) i.1) k ∙ ap (part_of defs i) h

by-shape : (defs : TypeDefs) (i : Typed) (ts : List Ty) (r : Option (Bor Shape)) (o : Option Ty)
    → option_map (layer_of ts) (option_copied r) ≡ option_map out-Ty o → IfSome r (λ s. Within (length ts) s.now)
    → typed_at ts (part_in (field_number (kind_of defs i.0) i.1) (option_copied r)) ≡ next_type defs o i
by-shape defs i ts None None h k = refl
by-shape defs i ts None (Some t) h k = cc
by-shape defs i ts (Some s) None h k = cc
by-shape defs i ts (Some s) (Some t) h k = part-at defs i ts s.now t (ap (λ o. unwrap_or o Ty-F.Ptr) h) k

-- one index more
pub step-at : (defs : TypeDefs) (i : Typed) (ts : List Ty) (n : ℕ) (f p : Option ℕ) (r : Option (Bor Shape))
    → option_map (layer_of ts) (option_copied r) ≡ option_map out-Ty (slice_get ts n) → IfSome r (λ s. Within (length ts) s.now)
    → f ≡ field_number (kind_of defs i.0) i.1 → p ≡ part_in f (option_copied r) → typed_at ts p ≡ next_type defs (slice_get ts n) i
step-at defs i ts n f p r h k e g =
    ap (typed_at ts) (g ∙ ap (λ f. part_in f (option_copied r)) e) ∙ by-shape defs i ts r (slice_get ts n) h k

-- a type with a level is there
pub there-at : (ts : List Ty) (r : Option (Bor Shape)) (o : Option Ty) → option_map (layer_of ts) (option_copied r) ≡ option_map out-Ty o
    → is_some r ≡ is_some o
there-at ts None None h = refl
there-at ts None (Some t) h = cc
there-at ts (Some s) None h = cc
there-at ts (Some s) (Some t) h = refl

nowhere : (defs : TypeDefs) (is : List Typed) → fold (next_type defs) None is ≡ None
nowhere defs [] = refl
nowhere defs (i ∷ is) = nowhere defs is

-- the indices go somewhere where the walk along them ends at a type
pub walk-ends : (defs : TypeDefs) (is : List Typed) (o : Option Ty) → is_some (fold (next_type defs) o is) ≡ goes_into defs is o
walk-ends defs is None = ap is_some (nowhere defs is) ∙ ends is
  where
    ends : (is : List Typed) → false ≡ goes_into defs is None
    ends [] = refl
    ends (i ∷ is) = refl
walk-ends defs [] (Some t) = refl
walk-ends defs (i ∷ is) (Some t) = walk-ends defs is (part_of defs i (out-Ty t))

-- the indices behind the first one are walked along
pub no-path-at : (defs ds : TypeDefs) (of : TyText) (is : List Typed) (ts : List Ty) (n : ℕ) (p : Option ℕ) (b : Bool) → 1 ≤ length is → ds ≡ defs
    → slice_get ts n ≡ Some (expanded defs of) → typed_at ts p ≡ fold (next_type ds) (slice_get ts n) (drop 1 is) → b ≡ is_some (typed_at ts p)
    → not b ≡ no_path defs of is
no-path-at defs ds of [] ts n p b h d at walk e = absurd (omega arith)
no-path-at defs ds of (i ∷ is) ts n p b h d at walk e =
    ap not (e ∙ ap is_some (walk ∙ (λ j. fold (next_type (d j)) (at j) is)) ∙ walk-ends defs is (Some (expanded defs of)))

pub no-number-path-at : (defs ds : TypeDefs) (of : TyText) (is : List (TyText × ℤ)) (ts : List Ty) (n : ℕ) (p : Option ℕ) (b : Bool) → 1 ≤ length is
    → ds ≡ defs → slice_get ts n ≡ Some (expanded defs of) → typed_at ts p ≡ fold (next_type ds) (slice_get ts n) (map index_operand (drop 1 is))
    → b ≡ is_some (typed_at ts p) → not b ≡ no_path defs of (map index_operand is)
no-number-path-at defs ds of [] ts n p b h d at walk e = absurd (omega arith)
no-number-path-at defs ds of (i ∷ is) ts n p b h d at walk e =
    ap not (e ∙ ap is_some (walk ∙ (λ j. fold (next_type (d j)) (at j) (map index_operand is))) ∙ walk-ends defs (map index_operand is) (Some (expanded defs of)))
