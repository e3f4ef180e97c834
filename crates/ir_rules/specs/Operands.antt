-- The rules on types, operands and numbers: 3 to 9 of an item, each a test of the item in its setting.
use Rattle.std.specs.Prelude.{◌-◌, ◌^◌, nat_lt, Bool, true, false, not, ◌||◌, Option, Some, None, is_none, ℤ, pos, negsuc}
use Rattle.std.specs.List.{list_any}
use Rattle.am_base.specs.declared.word.Width.{Width}
use Rattle.am_base.specs.declared.word.Width.TheVariants.{W1}
use Rattle.am_base.specs.declared.word.Cast.{Cast}
use Rattle.am_base.specs.declared.word.Cast.TheVariants.{Trunc, ZExt, SExt, PtrToInt, IntToPtr}
use Rattle.am_base.specs.Word.{bits_of}
use Rattle.code_form.specs.declared.code.TyScalar.{TyScalar}
use Rattle.code_form.specs.declared.code.TyScalar.TheVariants as scalar
use Rattle.ir_tree.specs.declared.type_text.TyText.{TyText}
use Rattle.ir_tree.specs.declared.operand.Opd.{Opd}
use Rattle.ir_tree.specs.declared.operand.Opd.TheVariants as opd
use Rattle.ir_tree.specs.declared.op.Op.{Op}
use Rattle.ir_tree.specs.declared.op.Op.TheVariants as op
use Rattle.ir_tree.specs.declared.item.Item.{Item}
use Rattle.ir_tree.specs.declared.item.Item.TheVariants as item
use Rattle.ir_rules.specs.declared.entity.Entity.{Entity}
use Rattle.ir_rules.specs.declared.entity.Entity.TheVariants.{Variable}
use Rattle.ir_rules.specs.declared.local.Local.{Local}
use Rattle.ir_rules.specs.declared.local.Local.TheVariants.{Value, NoType, Block}
use Rattle.ir_rules.specs.Types.{has_unknown, holds_itself, is_large, same_scalar, same_kind, is_integer}
use Rattle.ir_rules.specs.Parts.{Typed, op_operands, operands_of, constant_indices, types_of, scalars_of}
use Rattle.ir_rules.specs.Settings.{Setting, local_of, entity_of}

-- ---- UnknownType: a type names no type definition

abbrev pub unknown_type : Setting → Item → Bool
unknown_type s x = list_any (has_unknown s.types) (types_of x)

-- ---- RecursiveType: a type definition contains itself

abbrev pub recursive_type : Setting → Item → Bool
recursive_type s (item.TypeDef n t) = holds_itself s.types n
recursive_type s _ = false

-- ---- TypeTooLarge: the size of a type, or of a type inside it, is over the memory

abbrev pub type_too_large : Setting → Item → Bool
type_too_large s x = list_any (is_large s.types) (types_of x)

-- ---- ScalarWanted: `void`, an array or a struct stands where a parameter, result, operand, load or store needs an integer or a pointer

abbrev pub scalar_wanted : Setting → Item → Bool
scalar_wanted s x = list_any (λ t. is_none (s.kind t)) (scalars_of x)

-- ---- UnknownName: an operand's local isn't a parameter or result of its function, or an operand's global isn't a global variable

abbrev pub is_value : Option Local → Bool
is_value (Some (Value kind r)) = true
is_value (Some NoType) = true
is_value (Some (Block b)) = false
is_value None = false

abbrev pub is_variable : Option Entity → Bool
is_variable (Some Variable) = true
is_variable _ = false

-- outside of functions, so in an initialiser, no local is known
abbrev pub names_nothing : Setting → Opd → Bool
names_nothing s (opd.Local n) = not (is_value (local_of s n))
names_nothing s (opd.Global n) = not (is_variable (entity_of s n))
names_nothing s (opd.Get g) = not (is_variable (entity_of s g.2))
names_nothing s _ = false

abbrev pub unknown_name : Setting → Item → Bool
unknown_name s x = list_any (λ (v : Typed). names_nothing s v.1) (operands_of x)

-- ---- TypeDiffers: an operand's type isn't the one written, or a type isn't the one needed

abbrev pub local_has : Option Local → TyScalar → Bool
local_has (Some (Value (Some u) r)) t = same_scalar u t
local_has _ t = false

-- the operand is of the type: `true` and `false` are i1; `null`, globals and `getelementptr` constants are pointers; numbers are integers; `undef`, `poison`
-- and `zeroinitializer` are of every type
abbrev pub has_type : Setting → TyScalar → Opd → Bool
has_type s t (opd.Local n) = local_has (local_of s n) t
has_type s t (opd.Global n) = same_scalar scalar.Ptr t
has_type s t (opd.Number z) = is_integer (Some t)
has_type s t opd.True = same_scalar (scalar.Int W1) t
has_type s t opd.False = same_scalar (scalar.Int W1) t
has_type s t opd.Null = same_scalar scalar.Ptr t
has_type s t opd.Undef = true
has_type s t opd.Poison = true
has_type s t opd.Zero = true
has_type s t (opd.Get g) = same_scalar scalar.Ptr t

-- where the written type is no scalar, ScalarWanted is broken, which is the lesser rule
abbrev pub operand_differs : Setting → Option TyScalar → Opd → Bool
operand_differs s None a = false
operand_differs s (Some t) a = not (has_type s t a)

abbrev pub no_integer : Option TyScalar → Bool
no_integer None = false
no_integer (Some t) = not (is_integer (Some t))

abbrev pub not_of : TyScalar → Option TyScalar → Bool
not_of t None = false
not_of t (Some u) = not (same_scalar t u)

abbrev pub no_pointer : Option TyScalar → Bool
no_pointer k = not_of scalar.Ptr k

abbrev pub no_condition : Option TyScalar → Bool
no_condition k = not_of (scalar.Int W1) k

abbrev pub cast_differs : Cast → Option TyScalar → Option TyScalar → Bool
cast_differs Trunc from to = no_integer from || no_integer to
cast_differs ZExt from to = no_integer from || no_integer to
cast_differs SExt from to = no_integer from || no_integer to
cast_differs PtrToInt from to = no_pointer from || no_integer to
cast_differs IntToPtr from to = no_integer from || no_pointer to

-- the types that an instruction needs: integers for binary operations, the value of a `switch`, an index and a count; i1 for a condition; pointers for
-- addresses and the base of a `getelementptr`;
-- the first value's type for the second one of `select`
abbrev pub type_not_taken : Setting → Op → Bool
type_not_taken s (op.Bin o t a b) = no_integer (s.kind t)
type_not_taken s (op.Select c i t a u b) = no_condition (s.kind c) || not (same_kind (s.kind t) (s.kind u))
type_not_taken s (op.Cast c t a to) = cast_differs c (s.kind t) (s.kind to)
type_not_taken s (op.Alloca t (Some n)) = no_integer (s.kind n.0)
type_not_taken s (op.Load t u a) = no_pointer (s.kind u)
type_not_taken s (op.Store t a u b) = no_pointer (s.kind u)
type_not_taken s (op.Get of t a is) = no_pointer (s.kind t) || list_any (λ (i : Typed). no_integer (s.kind i.0)) is
type_not_taken s (op.Branch t c a b) = no_condition (s.kind t)
type_not_taken s (op.Switch t a n cs) = no_integer (s.kind t)
type_not_taken s _ = false

abbrev pub index_differs : Setting → Item → Bool
index_differs s x = list_any (λ (i : TyText × ℤ). no_integer (s.kind i.0)) (constant_indices x)

abbrev pub op_differs : Setting → Op → Bool
op_differs s o = list_any (λ (v : Typed). operand_differs s (s.kind v.0) v.1) (op_operands o) || type_not_taken s o

-- an initialiser has InitDiffers for its own type; the indices of its constants are asked here
abbrev pub type_differs : Setting → Item → Bool
type_differs s (item.Instr r o) = op_differs s o || index_differs s (item.Instr r o)
type_differs s x = index_differs s x

-- ---- LiteralRange: a number doesn't fit its width

-- a number fits where it is from -2^(w-1) to 2^w - 1
abbrev pub fits : Width → ℤ → Bool
fits w (pos n) = nat_lt n (2 ^ bits_of w)
fits w (negsuc n) = nat_lt n (2 ^ (bits_of w - 1))

abbrev pub number_out : Option TyScalar → ℤ → Bool
number_out (Some (scalar.Int w)) z = not (fits w z)
number_out _ z = false

abbrev pub operand_out : Option TyScalar → Opd → Bool
operand_out k (opd.Number z) = number_out k z
operand_out k _ = false

abbrev pub literal_range : Setting → Item → Bool
literal_range s x =
    list_any (λ (v : Typed). operand_out (s.kind v.0) v.1) (operands_of x)
    || list_any (λ (i : TyText × ℤ). number_out (s.kind i.0) i.1) (constant_indices x)
