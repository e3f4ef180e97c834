-- The paths of `getelementptr`, by the numbers of the types that they go into.
use Rattle.std.specs.Prelude.{◌≤◌, ℕ, List, [], ◌∷◌, map, Option, Some, None, slice_get, unwrap_or}
use Rattle.std.specs.Borrow.{Bor}
use Rattle.am_base.specs.declared.limits.TheConstants.{MAX_TYPE_BYTES}
use Rattle.type_layout.specs.declared.ty.Ty.{Ty}
use Rattle.type_layout.specs.Types.{layout_of, size_of}
use Rattle.type_table.specs.declared.shape.Shape.{Shape}
use Rattle.type_table.specs.declared.shape.Shape.TheVariants.{Array, Struct}
use Rattle.type_table.specs.declared.shape.Extent.{Extent}
use Rattle.type_table.specs.Table.{extent_at}
use Rattle.ir_rules.specs.Types.{TypeDefs}
use Rattle.ir_rules.specs.Parts.{Typed}
use Rattle.ir_rules.specs.Memory as memory
use Rattle.ir_op_codes.specs.declared.paths.Step.{Step}
use Rattle.ir_op_codes.specs.declared.paths.Step.TheVariants.{Scaled, Field}
use Rattle.ir_op_codes.specs.declared.paths.Place.{Place}
use Rattle.ir_op_codes.specs.declared.paths.Place.TheVariants.{Before, At, Lost}

-- ---- what an index does

abbrev pub meant : Step → memory.Step
meant (Scaled size) = memory.scaled size
meant (Field offset) = memory.field offset

-- the indices of a path, each with what it does
abbrev pub moves : List (Bor Typed × Step) → List (Typed × memory.Step)
moves list = map (λ (m : Bor Typed × Step). (m.0.now, meant m.1)) list

-- an index in front, where it does something
abbrev pub with_step : Typed → Option Step → List (Typed × memory.Step) → List (Typed × memory.Step)
with_step i None rest = rest
with_step i (Some s) rest = (i, meant s) ∷ rest

-- ---- by numbers

abbrev pub size_in : Option Extent → ℕ
size_in None = 0
size_in (Some e) = e.size

abbrev pub align_in : Option Extent → ℕ
align_in None = 0
align_in (Some e) = e.align

abbrev pub offset_in : Option Extent → Option ℕ → ℕ
offset_in None k = 0
offset_in (Some e) k = unwrap_or (slice_get e.offsets (unwrap_or k 0)) 0

abbrev pub field_in : List ℕ → Option ℕ → Option ℕ
field_in fields None = None
field_in fields (Some k) = slice_get fields k

-- the number of the type of the part that an index goes into, where k is the field's number
abbrev pub part_in : Option Shape → Option ℕ → Option ℕ
part_in (Some (Array n of)) k = Some of
part_in (Some (Struct fields)) k = field_in fields k
part_in _ k = None

abbrev pub step_in : List Ty → ℕ → Option Shape → Option ℕ → Option Step
step_in ts n None k = None
step_in ts n (Some (Array m of)) k = Some (Scaled (size_in (extent_at ts of)))
step_in ts n (Some (Struct fields)) k = Some (Field (offset_in (extent_at ts n) k))
step_in ts n (Some _) k = Some (Field 0)

abbrev pub place_in : Option ℕ → Place
place_in None = Lost
place_in (Some n) = At n

-- ---- by types

-- what the first indices do that go over values of a type
abbrev pub steps_over : TypeDefs → List Typed → Option Ty → List (Typed × memory.Step)
steps_over defs [] t = []
steps_over defs (i ∷ is) None = []
steps_over defs (i ∷ is) (Some t) = (i, memory.scaled (size_of t)) ∷ memory.steps_from defs is (Some t)

-- what the rest of a path does
abbrev pub rest_of : TypeDefs → List Ty → Place → List Typed → List (Typed × memory.Step)
rest_of defs ts (Before n) is = steps_over defs is (slice_get ts n)
rest_of defs ts (At n) is = memory.steps_from defs is (slice_get ts n)
rest_of defs ts Lost is = []

-- neither the type nor a type inside it is larger than the greatest size
abbrev pub IsSmall : Option Ty → Type 0
IsSmall None = Unit {0}
IsSmall (Some t) = (layout_of t).most ≤ MAX_TYPE_BYTES

abbrev pub IsRoomy : List Ty → Place → Type 0
IsRoomy ts (Before n) = IsSmall (slice_get ts n)
IsRoomy ts (At n) = IsSmall (slice_get ts n)
IsRoomy ts Lost = Unit {0}
