-- How much room a value takes, by the room of the parts of its type.
use Rattle.std.specs.Prelude.{ℕ, ◌+◌, ◌*◌, nat_lt, min, max, List, [], ◌∷◌, ◌++◌, map, fold, Option, Some, None, slice_get, if◌then◌else◌}
use Rattle.am_base.specs.declared.limits.TheConstants.{MAX_TYPE_BYTES}
use Rattle.type_layout.specs.Layout.{round_up, bytes_of}
use Rattle.type_table.specs.declared.shape.Shape.{Shape}
use Rattle.type_table.specs.declared.shape.Shape.TheVariants.{Int, Ptr, Array, Struct}
use Rattle.type_table.specs.declared.shape.Extent.{Extent}
use Rattle.type_table.specs.declared.extent.Fields.{Fields}
use Rattle.type_table.specs.Table.{flat}

-- a size counts as the greatest one at most, and an alignment is from 1 to 8, so that no sum can overflow
abbrev pub limited : ℕ → ℕ
limited n = min n MAX_TYPE_BYTES

abbrev pub near : ℕ → ℕ
near n = min (max n 1) 8

abbrev pub within_memory : ℕ → ℕ → List ℕ → Option Extent
within_memory size align offsets = if nat_lt MAX_TYPE_BYTES size then None else Some (record { size = size; align = align; offsets = offsets })

abbrev pub array_extent : ℕ → Option Extent → Option Extent
array_extent n None = None
array_extent n (Some e) = within_memory (n * e.size) e.align []

abbrev pub no_fields : Fields
no_fields = record { end = 0; align = 1; offsets = [] }

-- one field more, at the next multiple of its alignment
abbrev pub fields_with : Fields → Extent → Option Fields
fields_with f e =
    let at = round_up (limited f.end) (near e.align) in
    let end = at + limited e.size in
    if nat_lt MAX_TYPE_BYTES end then None else Some (record { end = end; align = max f.align e.align; offsets = f.offsets ++ at ∷ [] })

abbrev pub with_field : Option Fields → Option Extent → Option Fields
with_field None e = None
with_field (Some f) None = None
with_field (Some f) (Some e) = fields_with f e

abbrev pub ended : Option Fields → Option Extent
ended None = None
ended (Some f) = within_memory (round_up (limited f.end) (near f.align)) f.align f.offsets

abbrev pub extent_in : List (Option Extent) → ℕ → Option Extent
extent_in es n = flat (slice_get es n)

abbrev pub fields_in : List (Option Extent) → List ℕ → Option Fields
fields_in es is = fold with_field (Some no_fields) (map (extent_in es) is)

-- the room that a value takes, by what the numbers of its type's parts take
abbrev pub extent_by : List (Option Extent) → Shape → Option Extent
extent_by es (Int w) = Some (record { size = bytes_of w; align = bytes_of w; offsets = [] })
extent_by es Ptr = Some (record { size = 8; align = 8; offsets = [] })
extent_by es (Array n i) = array_extent n (extent_in es i)
extent_by es (Struct is) = ended (fields_in es is)
