-- The room of a type by its number.
use Rattle.std.proofs.Common.{◌≡◌, ◌⊎◌, inl, inr, ℕ, ◌≤◌, List, Option, Some, false, slice_get, ap, ◌∙◌, arith}
use Rattle.am_base.specs.declared.limits.TheConstants.{MAX_TYPE_BYTES}
use Rattle.type_layout.specs.declared.ty.Ty.{Ty}
use Rattle.type_layout.specs.Types.{layout_of, size_of, align_of}
use Rattle.type_table.specs.declared.shape.Extent.{Extent}
use Rattle.type_table.specs.Table.{extent_at}
use Rattle.ir_tree.specs.declared.type_text.TyText.{TyText}
use Rattle.ir_rules.specs.Types.{TypeDefs, expanded, is_large}
use Rattle.code_form.specs.Sound.{IsAlignment}
use Rattle.ir_sound.proofs.Layouts.{aligned, size-most, small}
use Rattle.ir_op_codes.proofs.Layouts.{extent-is}

abbrev pub whole : Ty → Extent
whole t = record { size = size_of t; align = align_of t; offsets = (layout_of t).offsets }

extent-at : (ts : List Ty) (n : ℕ) (t : Ty) → slice_get ts n ≡ Some t → (layout_of t).most ≤ MAX_TYPE_BYTES → extent_at ts n ≡ Some (whole t)
extent-at ts n t h m = rw h (extent-is (layout_of t) m)

-- a type that is not too large has its room in the table
pub extent-found : (defs : TypeDefs) (ty : TyText) (ts table : List Ty) (n : ℕ) (o : Option Extent) → is_large defs ty ≡ false → table ≡ ts
    → slice_get ts n ≡ Some (expanded defs ty) → o ≡ extent_at table n → o ≡ Some (whole (expanded defs ty))
extent-found defs ty ts table n o h same found e =
    e ∙ ap (λ (l : List Ty). extent_at l n) same ∙ extent-at ts n (expanded defs ty) found (small defs ty h)

pub align-few : (t : Ty) → align_of t ≤ 8
align-few t = by (align_of t) (aligned t)
  where
    by : (n : ℕ) → IsAlignment n → n ≤ 8
    by n h = elim h [ inl e ↦ omega arith | inr e ↦ elim e [ inl f ↦ omega arith | inr f ↦ elim f [ inl g ↦ omega arith | inr g ↦ omega arith ] ] ]

pub size-small : (defs : TypeDefs) (ty : TyText) → is_large defs ty ≡ false → size_of (expanded defs ty) ≤ MAX_TYPE_BYTES
size-small defs ty h = let m = small defs ty h in omega (arith, size-most (expanded defs ty))
