-- Where the globals stand in memory, and what is written there before a run.
use Rattle.std.specs.Prelude.{ℕ, zero, suc, ◌+◌, ◌-◌, ◌/◌, ◌%◌, true, false, List, [], ◌∷◌, ◌++◌, length, map, fold, flat_map, Option, Some, None}
use Rattle.std.specs.Prelude.{slice_index_or, unwrap_or, replicate, ℤ, pos, ◌+ℤ◌, ◌*ℤ◌}
use Rattle.am_base.specs.declared.limits.TheConstants.{FIRST_ADDRESS}
use Rattle.am_base.specs.declared.word.Width.{Width}
use Rattle.am_base.specs.declared.word.Width.TheVariants.{W64}
use Rattle.am_base.specs.Word.{word_of, signed}
use Rattle.code_form.specs.declared.code.TyScalar.{TyScalar}
use Rattle.type_layout.specs.Layout.{round_up}
use Rattle.type_layout.specs.declared.ty.Ty.{Ty}
use Rattle.type_layout.specs.declared.ty.Ty.{out-Ty}
use Rattle.type_layout.specs.declared.ty.Ty.TheOpen.{Ty-F}
use Rattle.type_layout.specs.Types.{layout_of, size_of, align_of}
use Rattle.ir_tree.specs.declared.name.Name.{Name}
use Rattle.ir_tree.specs.declared.type_text.TyText.{TyText}
use Rattle.ir_tree.specs.declared.operand.Opd.{Opd}
use Rattle.ir_tree.specs.declared.operand.Opd.TheVariants as opd
use Rattle.ir_tree.specs.declared.operand.Init.{Init}
use Rattle.ir_tree.specs.declared.operand.Init.TheOpen.{Init-F}
use Rattle.ir_tree.specs.declared.operand.Init.TheFolds.{fold-Init}
use Rattle.ir_tree.specs.declared.item.Item.{Item}
use Rattle.ir_tree.specs.declared.item.Item.TheVariants as item
use Rattle.ir_names.specs.Names.{defined}
use Rattle.ir_rules.specs.Types.{TypeDefs, expanded, scalar_of, kind_of}
use Rattle.ir_rules.specs.Parts.{Typed}
use Rattle.ir_rules.specs.Paths.{kind_width, field_number, part_of, index_operand}

-- ---- where the globals stand

-- a global: its name, its type and what it begins with
abbrev pub Global : Type 0
Global = Name × TyText × Init

abbrev pub constants_of : List Item → List Global
constants_of [] = []
constants_of (item.Global n true t i ∷ more) = (n, t, i) ∷ constants_of more
constants_of (_ ∷ more) = constants_of more

abbrev pub variables_of : List Item → List Global
variables_of [] = []
variables_of (item.Global n false t i ∷ more) = (n, t, i) ∷ variables_of more
variables_of (_ ∷ more) = variables_of more

abbrev pub place_of : TypeDefs → ℕ → Global → ℕ
place_of defs at g = round_up at (align_of (expanded defs g.1))

-- where globals end that begin at an address or behind it, each at the next multiple of its alignment
abbrev pub end_from : TypeDefs → ℕ → List Global → ℕ
end_from defs at [] = at
end_from defs at (g ∷ gs) = end_from defs (place_of defs at g + size_of (expanded defs g.1)) gs

-- where each of them begins
abbrev pub places_from : TypeDefs → ℕ → List Global → List (ℕ × Global)
places_from defs at [] = []
places_from defs at (g ∷ gs) = (place_of defs at g, g) ∷ places_from defs (place_of defs at g + size_of (expanded defs g.1)) gs

-- the end of the last constant global, and of the last global
abbrev pub constants_end : TypeDefs → List Item → ℕ
constants_end defs items = end_from defs FIRST_ADDRESS (constants_of items)

abbrev pub globals_end : TypeDefs → List Item → ℕ
globals_end defs items = end_from defs (constants_end defs items) (variables_of items)

-- the next multiple of 16 after the last global
abbrev pub stack_base_of : TypeDefs → List Item → ℕ
stack_base_of defs items = round_up (globals_end defs items) 16

-- constant globals stand first, in text order, and then the variable ones
abbrev pub places_of : TypeDefs → List Item → List (ℕ × Global)
places_of defs items = places_from defs FIRST_ADDRESS (constants_of items) ++ places_from defs (constants_end defs items) (variables_of items)

abbrev pub addresses_of : TypeDefs → List Item → List (Name × ℕ)
addresses_of defs items = map (λ (p : ℕ × Global). (p.1.0, p.0)) (places_of defs items)

abbrev pub Addresses : Type 0
Addresses = List (Name × ℕ)

abbrev pub address_in : Addresses → Name → ℕ
address_in addresses n = unwrap_or (defined addresses n) 0

-- ---- the path of a `getelementptr`

-- what an index of a path does: it is multiplied by a size, or it is a field with an offset
pub data Step : Type 0 where
  scaled : ℕ → Step
  field : ℕ → Step

abbrev pub step_of : TypeDefs → Typed → Ty → Ty-F Ty → Step
step_of defs i t (Ty-F.Array n of) = scaled (size_of of)
step_of defs i t (Ty-F.Struct fields) = field (slice_index_or (layout_of t).offsets (unwrap_or (field_number (kind_of defs i.0) i.1) 0) 0)
step_of defs i t _ = field 0

abbrev pub steps_from : TypeDefs → List Typed → Option Ty → List (Typed × Step)
steps_from defs [] t = []
steps_from defs (i ∷ is) None = []
steps_from defs (i ∷ is) (Some t) = (i, step_of defs i t (out-Ty t)) ∷ steps_from defs is (part_of defs i (out-Ty t))

-- the first index goes over values of the type itself
abbrev pub steps_of : TypeDefs → TyText → List Typed → List (Typed × Step)
steps_of defs of [] = []
steps_of defs of (i ∷ is) = (i, scaled (size_of (expanded defs of))) ∷ steps_from defs is (Some (expanded defs of))

-- what an index adds to the offset by itself: a number is signed in its width, and an index that is no number adds nothing here
abbrev pub literal_of : TypeDefs → Typed × Step → ℤ
literal_of defs (i, field offset) = pos offset
literal_of defs (i, scaled size) = number i.1
  where
    number : Opd → ℤ
    number (opd.Number z) = signed (kind_width (kind_of defs i.0)) (word_of (kind_width (kind_of defs i.0)) z) *ℤ pos size
    number _ = pos 0

abbrev pub total : List ℤ → ℤ
total zs = fold (λ a b. a +ℤ b) (pos 0) zs

-- the literal part of an offset
abbrev pub literal_part : TypeDefs → List (Typed × Step) → ℤ
literal_part defs steps = total (map (literal_of defs) steps)

-- ---- words of constants

-- an address is taken modulo 2^64
abbrev pub constant_word : TypeDefs → Addresses → Width → Opd → ℕ
constant_word defs addresses w (opd.Global n) = address_in addresses n
constant_word defs addresses w (opd.Number z) = word_of w z
constant_word defs addresses w opd.True = 1
constant_word defs addresses w (opd.Get g) = word_of W64 (pos (address_in addresses g.2) +ℤ literal_part defs (steps_of defs g.0 (map index_operand g.3)))
constant_word defs addresses w _ = 0

-- ---- opening bytes

-- the bytes of a number, the lowest first
abbrev pub little_endian : ℕ → ℕ → List ℕ
little_endian zero n = []
little_endian (suc k) n = n % 256 ∷ little_endian k (n / 256)

-- bytes with zeros behind, up to a length
abbrev pub padded : ℕ → List ℕ → List ℕ
padded n bytes = bytes ++ replicate (n - length bytes) 0

-- a constant of an integer or a pointer is its word; of another type it is zeros
abbrev pub constant_bytes : TypeDefs → Addresses → Ty → Opd → List ℕ
constant_bytes defs addresses t a = by (scalar_of t)
  where
    by : Option TyScalar → List ℕ
    by None = replicate (size_of t) 0
    by (Some k) = little_endian (size_of t) (constant_word defs addresses (kind_width (Some k)) a)

-- one more field behind the bytes so far, at the next multiple of its alignment
abbrev pub with_field : TypeDefs → List ℕ → TyText × (Ty → List ℕ) → List ℕ
with_field defs bytes e = padded (round_up (length bytes) (align_of (expanded defs e.0))) bytes ++ e.1 (expanded defs e.0)

abbrev pub bytes_step : TypeDefs → Addresses → Init-F (Ty → List ℕ) → Ty → List ℕ
bytes_step defs addresses (Init-F.One a) t = constant_bytes defs addresses t a
bytes_step defs addresses (Init-F.Text s) t = s
bytes_step defs addresses (Init-F.Array es) t = flat_map (λ (e : TyText × (Ty → List ℕ)). e.1 (expanded defs e.0)) es
bytes_step defs addresses (Init-F.Struct es) t = padded (size_of t) (fold (with_field defs) [] es)

-- the bytes of an initialiser of a type; padding is zeros
unfoldable pub init_bytes : TypeDefs → Addresses → Init → Ty → List ℕ
init_bytes defs addresses i t = fold-Init (Ty → List ℕ) (bytes_step defs addresses) i t

abbrev pub with_global : TypeDefs → Addresses → List ℕ → ℕ × Global → List ℕ
with_global defs addresses bytes p = padded p.0 bytes ++ init_bytes defs addresses p.1.2 (expanded defs p.1.1)

-- the bytes of the memory from address 0 to below the stack base
abbrev pub opening_bytes : TypeDefs → List Item → List ℕ
opening_bytes defs items = padded (stack_base_of defs items) (fold (with_global defs (addresses_of defs items)) [] (places_of defs items))
