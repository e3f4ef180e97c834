-- Size, alignment and field offsets of a type, in bytes.
use Rattle.std.specs.Prelude.{ℕ, ◌+◌, ◌*◌, max, List, [], ◌∷◌, fold}
use Rattle.type_layout.specs.Layout.{round_up, bytes_of}
use Rattle.type_layout.specs.declared.ty.Ty.{Ty}
use Rattle.type_layout.specs.declared.ty.Ty.TheOpen.{Ty-F, Int, Ptr, Array, Struct}
use Rattle.type_layout.specs.declared.ty.Ty.TheFolds.{fold-Ty}

pub record Layout : Type 0 where
  pub size : ℕ
  pub align : ℕ
  -- where the fields begin; a type that isn't a struct has none
  pub offsets : List ℕ
  -- the greatest size of the type and the types inside it
  pub most : ℕ

-- the alignment of a struct: the greatest of its fields, 1 without fields
abbrev pub greatest_align : List Layout → ℕ
greatest_align fields = fold (λ most f. max most f.align) 1 fields

-- where fields end that begin at a place or behind it, each at the next multiple of its alignment
abbrev pub end_after : ℕ → List Layout → ℕ
end_after at fields = fold (λ at f. round_up at f.align + f.size) at fields

-- where they begin
abbrev pub offsets_from : ℕ → List Layout → List ℕ
offsets_from at [] = []
offsets_from at (f ∷ rest) = round_up at f.align ∷ offsets_from (round_up at f.align + f.size) rest

abbrev pub layout_step : Ty-F Layout → Layout
layout_step (Int w) = record { size = bytes_of w; align = bytes_of w; offsets = []; most = bytes_of w }
layout_step Ptr = record { size = 8; align = 8; offsets = []; most = 8 }
layout_step (Array n of) = record { size = n * of.size; align = of.align; offsets = []; most = max (n * of.size) of.most }
layout_step (Struct fields) =
    let align = greatest_align fields in
    let size = round_up (end_after 0 fields) align in
    record { size = size; align = align; offsets = offsets_from 0 fields; most = fold (λ most f. max most f.most) size fields }

abbrev pub layout_of : Ty → Layout
layout_of = fold-Ty Layout layout_step

abbrev pub size_of : Ty → ℕ
size_of t = (layout_of t).size

abbrev pub align_of : Ty → ℕ
align_of t = (layout_of t).align
