-- The integers and pointers that types stand for.
use Rattle.std.proofs.Common.{◌≡◌, ℕ, List, [], Option, Some, None, slice_get, unwrap_or, refl, sym, ap, ◌∙◌}
use Rattle.std.specs.Option.{option_map}
use Rattle.std.proofs.lemmas.Option.{same_Some}
use Rattle.code_form.specs.declared.code.TyScalar.{TyScalar}
use Rattle.code_form.specs.declared.code.TyScalar.TheVariants as scalar
use Rattle.type_layout.specs.declared.ty.Ty.{Ty, out-Ty, roll-Ty, roll-out-Ty}
use Rattle.type_layout.specs.declared.ty.Ty.TheVariants as ty
use Rattle.type_layout.specs.declared.ty.Ty.TheOpen.{Ty-F}
use Rattle.type_table.specs.declared.shape.Shape.{Shape}
use Rattle.type_table.specs.declared.shape.Shape.TheVariants as shape
use Rattle.type_table.specs.Table.{type_at, layer_of}
use Rattle.ir_rules.specs.Types.{scalar_of}
use Rattle.ir_types.specs.Scalars.{scalar_shape, scalar_from}

abbrev pub scalar_layer : Ty-F Ty → Option TyScalar
scalar_layer (Ty-F.Int w) = Some (scalar.Int w)
scalar_layer Ty-F.Ptr = Some scalar.Ptr
scalar_layer (Ty-F.Array n t) = None
scalar_layer (Ty-F.Struct ts) = None

layer : (x : Ty-F Ty) → scalar_of (roll-Ty x) ≡ scalar_layer x
layer (Ty-F.Int w) = ap scalar_of (ty.rolls-Int w)
layer Ty-F.Ptr = ap scalar_of ty.rolls-Ptr
layer (Ty-F.Array n t) = ap scalar_of (ty.rolls-Array n t)
layer (Ty-F.Struct ts) = ap scalar_of (ty.rolls-Struct ts)

-- the integer or pointer that a type is, by one level of it
pub scalar-layer : (t : Ty) (x : Ty-F Ty) → out-Ty t ≡ x → scalar_of t ≡ scalar_layer x
scalar-layer t x e = ap scalar_of (sym (roll-out-Ty t)) ∙ layer (out-Ty t) ∙ ap scalar_layer e

shape-layer : (ts : List Ty) (s : Shape) → scalar_shape s ≡ scalar_layer (layer_of ts s)
shape-layer ts (shape.Int w) = refl
shape-layer ts shape.Ptr = refl
shape-layer ts (shape.Array n i) = refl
shape-layer ts (shape.Struct is) = refl

-- the integer or pointer that the type with a number is
pub scalar-found : (ts : List Ty) (n : ℕ) (o : Option Shape) → option_map (layer_of ts) o ≡ option_map out-Ty (slice_get ts n)
    → scalar_from o ≡ scalar_of (type_at ts n)
scalar-found ts n o h = by o (slice_get ts n) h
  where
    by : (o : Option Shape) (t : Option Ty) → option_map (layer_of ts) o ≡ option_map out-Ty t → scalar_from o ≡ scalar_of (unwrap_or t (ty.Struct []))
    by None None h = refl
    by None (Some t) h = cc
    by (Some s) None h = cc
    by (Some s) (Some t) h = shape-layer ts s ∙ sym (scalar-layer t (layer_of ts s) (sym (same_Some (layer_of ts s) (out-Ty t) h)))
