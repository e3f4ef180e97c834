-- The makers: what stands in place of an instruction. Each maker changes one part, or swaps two. A change that gives the part that was there, or one that an
-- earlier change gave, is left out: two changes of different parts are never equal, so the instructions that are left differ from the original and
-- from each other.
use Rattle.std.specs.Prelude.{ℕ, ◌+◌, ◌-◌, ◌%◌, ◌^◌, ◌==◌, Bool, true, false, if◌then◌else◌, List, [], ◌∷◌, ◌++◌, map, flat_map, fold, Option, Some, None, slice_get, slice_set, ℤ}
use Rattle.std.specs.List.{list_any}
use Rattle.am_base.specs.declared.word.Width.{Width}
use Rattle.am_base.specs.declared.word.Width.TheVariants as width
use Rattle.am_base.specs.declared.word.BinOp.{BinOp}
use Rattle.am_base.specs.declared.word.BinOp.TheVariants.{Add, Sub, Mul, UDiv, SDiv, URem, SRem, Shl, LShr, AShr, And, Or, Xor}
use Rattle.am_base.specs.declared.word.Pred.{Pred}
use Rattle.am_base.specs.declared.word.Pred.TheVariants.{Eq, Ne, Ugt, Uge, Ult, Ule, Sgt, Sge, Slt, Sle}
use Rattle.am_base.specs.Word.{bits_of, signed, word_of}
use Rattle.code_form.specs.declared.code.TyScalar.{TyScalar}
use Rattle.code_form.specs.declared.code.TyScalar.TheVariants as scalar
use Rattle.code_form.specs.declared.instr.Operand.{Operand}
use Rattle.code_form.specs.declared.instr.Operand.TheVariants.{Reg, Word}
use Rattle.code_form.specs.declared.instr.Instr.{Instr}
use Rattle.code_form.specs.declared.instr.Instr.TheVariants as instr
use Rattle.ir_tree.specs.declared.operand.Opd.{Opd}
use Rattle.ir_tree.specs.declared.operand.Opd.TheVariants as opd
use Rattle.ir_tree.specs.declared.op.Op.{Op}
use Rattle.ir_tree.specs.declared.op.Op.TheVariants as op
use Rattle.ir_rules.specs.Types.{Kinds}
use Rattle.ir_rules.specs.Parts.{Typed}

-- ---- operator: a binary operation with each other of the thirteen operations

abbrev pub operations : List BinOp
operations = Add ∷ Sub ∷ Mul ∷ UDiv ∷ SDiv ∷ URem ∷ SRem ∷ Shl ∷ LShr ∷ AShr ∷ And ∷ Or ∷ Xor ∷ []

abbrev pub same_operation : BinOp → BinOp → Bool
same_operation Add Add = true
same_operation Sub Sub = true
same_operation Mul Mul = true
same_operation UDiv UDiv = true
same_operation SDiv SDiv = true
same_operation URem URem = true
same_operation SRem SRem = true
same_operation Shl Shl = true
same_operation LShr LShr = true
same_operation AShr AShr = true
same_operation And And = true
same_operation Or Or = true
same_operation Xor Xor = true
same_operation _ _ = false

abbrev pub operator_maker : Op → List Op
operator_maker (op.Bin b t x y) = flat_map (λ k. if same_operation b k then [] else op.Bin k t x y ∷ []) operations
operator_maker _ = []

-- ---- predicate: an `icmp` with each other of the ten predicates

abbrev pub predicates : List Pred
predicates = Eq ∷ Ne ∷ Ugt ∷ Uge ∷ Ult ∷ Ule ∷ Sgt ∷ Sge ∷ Slt ∷ Sle ∷ []

abbrev pub same_predicate : Pred → Pred → Bool
same_predicate Eq Eq = true
same_predicate Ne Ne = true
same_predicate Ugt Ugt = true
same_predicate Uge Uge = true
same_predicate Ult Ult = true
same_predicate Ule Ule = true
same_predicate Sgt Sgt = true
same_predicate Sge Sge = true
same_predicate Slt Slt = true
same_predicate Sle Sle = true
same_predicate _ _ = false

abbrev pub predicate_maker : Op → List Op
predicate_maker (op.Cmp p t x y) = flat_map (λ k. if same_predicate p k then [] else op.Cmp k t x y ∷ []) predicates
predicate_maker _ = []

-- ---- constant: a number of i8 to i64 plus 1, minus 1, then 0, then 1

-- one word more, unless it is the old one or stands there already
abbrev pub with_word : ℕ → List ℕ → ℕ → List ℕ
with_word old words new = if list_any (λ a. a == new) (old ∷ words) then words else words ++ new ∷ []

-- the words in place of a word of a width, modulo 2 ^ w
abbrev pub new_words : Width → ℕ → List ℕ
new_words w a = fold (with_word a) [] ((a + 1) % 2 ^ bits_of w ∷ (a + (2 ^ bits_of w - 1)) % 2 ^ bits_of w ∷ 0 ∷ 1 ∷ [])

abbrev pub is_wide : Width → Bool
is_wide width.W1 = false
is_wide _ = true

-- the numbers in place of a number, written signed; none in place of an operand that is no number, or of i1
abbrev pub new_numbers : Option TyScalar → Opd → List ℤ
new_numbers (Some (scalar.Int w)) (opd.Number z) = if is_wide w then map (signed w) (new_words w (word_of w z)) else []
new_numbers _ _ = []

-- the operands that are asked, in text order: those of a binary operation and of `icmp`, the values of `select`, the value of `store` and of `ret`, and the
-- arguments of a call
abbrev pub values_of : Op → List Typed
values_of (op.Bin b t x y) = (t, x) ∷ (t, y) ∷ []
values_of (op.Cmp p t x y) = (t, x) ∷ (t, y) ∷ []
values_of (op.Select c i t x u y) = (t, x) ∷ (u, y) ∷ []
values_of (op.Store t x u y) = (t, x) ∷ []
values_of (op.Ret (Some v)) = v ∷ []
values_of (op.Call t f xs) = xs
values_of _ = []

-- arguments with another operand in a place
abbrev pub with_argument : List Typed → ℕ → Opd → List Typed
with_argument xs k a = by (slice_get xs k)
  where
    by : Option Typed → List Typed
    by None = xs
    by (Some v) = slice_set xs k (v.0, a)

-- the instruction with another operand in place of the one with this number among those that are asked
abbrev pub with_value : Op → ℕ → Opd → Op
with_value (op.Bin b t x y) k a = if k == 0 then op.Bin b t a y else op.Bin b t x a
with_value (op.Cmp p t x y) k a = if k == 0 then op.Cmp p t a y else op.Cmp p t x a
with_value (op.Select c i t x u y) k a = if k == 0 then op.Select c i t a u y else op.Select c i t x u a
with_value (op.Store t x u y) k a = op.Store t a u y
with_value (op.Ret (Some v)) k a = op.Ret (Some (v.0, a))
with_value (op.Call t f xs) k a = op.Call t f (with_argument xs k a)
with_value o k a = o

-- those of the operands from one on
abbrev pub constants_from : Kinds → Op → ℕ → List Typed → List Op
constants_from kind o k [] = []
constants_from kind o k (v ∷ vs) = map (λ z. with_value o k (opd.Number z)) (new_numbers (kind v.0) v.1) ++ constants_from kind o (k + 1) vs

abbrev pub constant_maker : Kinds → Op → List Op
constant_maker kind o = constants_from kind o 0 (values_of o)

-- ---- swap: the operands of a binary operation or `icmp`, the values of `select`, the labels of a conditional `br`; by its code, the instruction has two
-- different ones

abbrev pub same_operand : Operand → Operand → Bool
same_operand (Reg a) (Reg b) = a == b
same_operand (Word a) (Word b) = a == b
same_operand _ _ = false

abbrev pub swap_maker : Instr → Op → List Op
swap_maker (instr.Bin k w a b) (op.Bin o t x y) = if same_operand a b then [] else op.Bin o t y x ∷ []
swap_maker (instr.Cmp k w a b) (op.Cmp p t x y) = if same_operand a b then [] else op.Cmp p t y x ∷ []
swap_maker (instr.Select d a b) (op.Select c i t x u y) = if same_operand a b then [] else op.Select c i u y t x ∷ []
swap_maker (instr.Branch d a b) (op.Branch t i m n) = if a == b then [] else op.Branch t i n m ∷ []
swap_maker _ _ = []

-- ---- condition: `true`, then `false`, in `select` and conditional `br`; by its code, the instruction has another condition

abbrev pub new_conditions : Operand → List Opd
new_conditions d = (if same_operand d (Word 1) then [] else opd.True ∷ []) ++ (if same_operand d (Word 0) then [] else opd.False ∷ [])

-- the instruction with another condition, where it has one
abbrev pub with_condition : Op → Opd → List Op
with_condition (op.Select c i t x u y) j = op.Select c j t x u y ∷ []
with_condition (op.Branch t i m n) j = op.Branch t j m n ∷ []
with_condition _ j = []

abbrev pub condition_maker : Instr → Op → List Op
condition_maker (instr.Select d a b) o = flat_map (with_condition o) (new_conditions d)
condition_maker (instr.Branch d a b) o = flat_map (with_condition o) (new_conditions d)
condition_maker _ o = []

-- ---- all makers

-- what stands in place of an instruction with this code, in order
abbrev pub replacements_of : Kinds → Instr → Op → List Op
replacements_of kind code o = operator_maker o ++ (predicate_maker o ++ (constant_maker kind o ++ (swap_maker code o ++ condition_maker code o)))
