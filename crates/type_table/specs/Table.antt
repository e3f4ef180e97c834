-- Types by number.
use Rattle.std.specs.Prelude.{◌≡◌, ℕ, ◌+◌, ◌<◌, nat_lt, List, [], ◌∷◌, ◌++◌, map, fold, Option, Some, None, slice_get, unwrap_or, if◌then◌else◌}
use Rattle.am_base.specs.declared.limits.TheConstants.{MAX_TYPE_BYTES}
use Rattle.type_layout.specs.declared.ty.Ty.{Ty}
use Rattle.type_layout.specs.declared.ty.Ty.TheVariants as ty
use Rattle.type_layout.specs.declared.ty.Ty.TheOpen.{Ty-F}
use Rattle.type_layout.specs.Types.{Layout, layout_of}
use Rattle.type_table.specs.declared.shape.Shape.{Shape}
use Rattle.type_table.specs.declared.shape.Shape.TheVariants.{Int, Ptr, Array, Struct}
use Rattle.type_table.specs.declared.shape.Extent.{Extent}

-- the type with a number; `{}` where there is none
abbrev pub type_at : List Ty → ℕ → Ty
type_at ts n = unwrap_or (slice_get ts n) (ty.Struct [])

-- one level of a type, with its parts by their numbers
abbrev pub layer_of : List Ty → Shape → Ty-F Ty
layer_of ts (Int w) = Ty-F.Int w
layer_of ts Ptr = Ty-F.Ptr
layer_of ts (Array n i) = Ty-F.Array n (type_at ts i)
layer_of ts (Struct is) = Ty-F.Struct (map (type_at ts) is)

abbrev pub ty_of : List Ty → Shape → Ty
ty_of ts (Int w) = ty.Int w
ty_of ts Ptr = ty.Ptr
ty_of ts (Array n i) = ty.Array n (type_at ts i)
ty_of ts (Struct is) = ty.Struct (map (type_at ts) is)

abbrev pub AreBelow : ℕ → List ℕ → Type 0
AreBelow n [] = Unit {0}
AreBelow n (i ∷ is) = (i < n) × AreBelow n is

-- the parts have numbers below n
abbrev pub Within : ℕ → Shape → Type 0
Within n (Int w) = Unit {0}
Within n Ptr = Unit {0}
Within n (Array m i) = i < n
Within n (Struct is) = AreBelow n is

-- a number keeps its type
abbrev pub Keeps : List Ty → List Ty → Type 0
Keeps old new = (n : ℕ) (t : Ty) → slice_get old n ≡ Some t → slice_get new n ≡ Some t

-- how much room a value of a type takes, unless the type or one inside it is larger than the greatest size
abbrev pub extent_with : Layout → Option Extent
extent_with l = if nat_lt MAX_TYPE_BYTES l.most then None else Some (record { size = l.size; align = l.align; offsets = l.offsets })

abbrev pub extent_of : Ty → Option Extent
extent_of t = extent_with (layout_of t)

abbrev pub flat : {X : Type 0} → Option (Option X) → Option X
flat None = None
flat (Some o) = o

-- the same of the type with a number
abbrev pub extent_at : List Ty → ℕ → Option Extent
extent_at ts n = of_some (slice_get ts n)
  where
    of_some : Option Ty → Option Extent
    of_some None = None
    of_some (Some t) = extent_of t

-- ---- a table that grows

abbrev pub with_shape : List Ty → Shape → List Ty
with_shape ts s = ts ++ ty_of ts s ∷ []

-- the types of some shapes, each with parts that stand before it
abbrev pub types_of : List Shape → List Ty
types_of ss = fold with_shape [] ss

-- the parts of each shape stand before it; the shapes are numbered from n
abbrev pub AreOrdered : ℕ → List Shape → Type 0
AreOrdered n [] = Unit {0}
AreOrdered n (s ∷ ss) = Within n s × AreOrdered (n + 1) ss
