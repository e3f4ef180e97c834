-- The rules on the path of a `getelementptr`, on the cases of a `switch`, on results and on conversions.
use Rattle.std.specs.Prelude.{ℕ, nat_eq, nat_lt, Bool, true, false, not, ◌&&◌, ◌||◌, List, [], ◌∷◌, map, Option, Some, None, is_some, slice_get, ℤ, pos}
use Rattle.std.specs.Prelude.{if◌then◌else◌}
use Rattle.std.specs.List.{list_any}
use Rattle.am_base.specs.declared.word.Width.{Width}
use Rattle.am_base.specs.declared.word.Width.TheVariants.{W32}
use Rattle.am_base.specs.declared.word.Cast.{Cast}
use Rattle.am_base.specs.declared.word.Cast.TheVariants.{Trunc, ZExt, SExt, PtrToInt, IntToPtr}
use Rattle.am_base.specs.Word.{bits_of, word_of}
use Rattle.code_form.specs.declared.code.TyScalar.{TyScalar}
use Rattle.code_form.specs.declared.code.TyScalar.TheVariants as scalar
use Rattle.code_form.specs.Sound.{width_of}
use Rattle.type_layout.specs.declared.ty.Ty.{Ty}
use Rattle.type_layout.specs.declared.ty.Ty.{out-Ty}
use Rattle.type_layout.specs.declared.ty.Ty.TheOpen.{Ty-F}
use Rattle.ir_tree.specs.declared.type_text.TyText.{TyText}
use Rattle.ir_tree.specs.declared.operand.Opd.{Opd}
use Rattle.ir_tree.specs.declared.operand.Opd.TheVariants as opd
use Rattle.ir_tree.specs.declared.name.Name.{Name}
use Rattle.ir_tree.specs.declared.op.Op.{Op}
use Rattle.ir_tree.specs.declared.op.Op.TheVariants as op
use Rattle.ir_tree.specs.declared.item.Item.{Item}
use Rattle.ir_tree.specs.declared.item.Item.TheVariants as item
use Rattle.ir_rules.specs.Types.{TypeDefs, expanded, kind_of, Kinds, same_kind}
use Rattle.ir_rules.specs.Scopes.{has_value, is_call}
use Rattle.ir_rules.specs.Parts.{Typed, operands_of}
use Rattle.ir_rules.specs.Settings.{Setting}

-- ---- SwitchCase: a case isn't a number (or `true`, `false`) of the value's type, or two cases are equal

-- the word of a case
abbrev pub case_word : Width → Opd → Option ℕ
case_word w (opd.Number z) = Some (word_of w z)
case_word w opd.True = Some 1
case_word w opd.False = Some 0
case_word w _ = None

abbrev pub kind_width : Option TyScalar → Width
kind_width None = W32
kind_width (Some t) = width_of t

abbrev pub Case : Type 0
Case = TyText × Opd × Name

abbrev pub no_case : Kinds → TyText → Case → Bool
no_case kind t c = not (is_some (case_word (kind_width (kind t)) c.1) && same_kind (kind t) (kind c.0))

abbrev pub same_word : Option ℕ → Option ℕ → Bool
same_word (Some m) (Some n) = nat_eq m n
same_word _ _ = false

-- -1 and 255 are equal cases of an i8
abbrev pub two_equal : List (Option ℕ) → Bool
two_equal [] = false
two_equal (w ∷ ws) = list_any (same_word w) ws || two_equal ws

abbrev pub switch_case : Setting → Item → Bool
switch_case s (item.Instr r (op.Switch t a n cs)) =
    list_any (no_case s.kind t) cs || two_equal (map (λ (c : Case). case_word (kind_width (s.kind t)) c.1) cs)
switch_case s _ = false

-- ---- GetPath: an index goes into no array or struct, a struct's index isn't an i32 number of one of its fields, or a constant's base type isn't ptr

-- the number of a field, where the index is an i32 number
abbrev pub field_number : Option TyScalar → Opd → Option ℕ
field_number k (opd.Number (pos n)) = if same_kind k (Some (scalar.Int W32)) then Some n else None
field_number k _ = None

-- the field with a number
abbrev pub field_type : List Ty → Option ℕ → Option Ty
field_type fields None = None
field_type fields (Some n) = slice_get fields n

-- what an index goes into: an element, whatever the index, or a field
abbrev pub part_of : TypeDefs → Typed → Ty-F Ty → Option Ty
part_of defs i (Ty-F.Array n of) = Some of
part_of defs i (Ty-F.Struct fields) = field_type fields (field_number (kind_of defs i.0) i.1)
part_of defs i _ = None

-- each index has a part to go into
abbrev pub goes_into : TypeDefs → List Typed → Option Ty → Bool
goes_into defs is None = false
goes_into defs [] (Some t) = true
goes_into defs (i ∷ is) (Some t) = goes_into defs is (part_of defs i (out-Ty t))

-- the first index goes over values of the type itself
abbrev pub no_path : TypeDefs → TyText → List Typed → Bool
no_path defs of [] = false
no_path defs of (i ∷ is) = not (goes_into defs is (Some (expanded defs of)))

abbrev pub index_operand : TyText × ℤ → Typed
index_operand i = (i.0, opd.Number i.1)

abbrev pub no_constant_path : TypeDefs → Opd → Bool
no_constant_path defs (opd.Get g) = no_path defs g.0 (map index_operand g.3) || not (same_kind (kind_of defs g.1) (Some scalar.Ptr))
no_constant_path defs _ = false

abbrev pub no_op_path : TypeDefs → Op → Bool
no_op_path defs (op.Get of t a is) = no_path defs of is
no_op_path defs _ = false

abbrev pub no_item_path : TypeDefs → Item → Bool
no_item_path defs (item.Instr r o) = no_op_path defs o
no_item_path defs _ = false

abbrev pub get_path : Setting → Item → Bool
get_path s x = no_item_path s.types x || list_any (λ (v : Typed). no_constant_path s.types v.1) (operands_of x)

-- ---- ResultName: a written result on an instruction without a value, or none on an instruction with a value other than `call`

abbrev pub result_differs : Option Name → Op → Bool
result_differs (Some n) o = not (has_value o)
result_differs None o = has_value o && not (is_call o)

abbrev pub result_misplaced : Item → Bool
result_misplaced (item.Instr r o) = result_differs r o
result_misplaced _ = false

-- ---- CastWidth: `trunc` doesn't narrow, or `zext` or `sext` doesn't widen

abbrev pub narrows : Option TyScalar → Option TyScalar → Bool
narrows (Some (scalar.Int from)) (Some (scalar.Int to)) = nat_lt (bits_of to) (bits_of from)
narrows _ _ = true

abbrev pub wrong_width : Cast → Option TyScalar → Option TyScalar → Bool
wrong_width Trunc from to = not (narrows from to)
wrong_width ZExt from to = not (narrows to from)
wrong_width SExt from to = not (narrows to from)
wrong_width PtrToInt from to = false
wrong_width IntToPtr from to = false

abbrev pub cast_width : Setting → Item → Bool
cast_width s (item.Instr r (op.Cast c t a to)) = wrong_width c (s.kind t) (s.kind to)
cast_width s _ = false
