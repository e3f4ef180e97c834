-- What the makers try in the place of an instruction, and which of it is left out: what equals the original or an earlier one.
use Rattle.std.specs.Prelude.{◌≡◌, ◌⊎◌, ℕ, ◌+◌, ◌-◌, ◌%◌, ◌^◌, if◌then◌else◌, List, [], ◌∷◌, ◌++◌, map, Option, Some, ℤ}
use Rattle.am_base.specs.declared.word.Width.{Width}
use Rattle.am_base.specs.Word.{bits_of, signed, word_of}
use Rattle.code_form.specs.declared.code.TyScalar.{TyScalar}
use Rattle.code_form.specs.declared.code.TyScalar.TheVariants as scalar
use Rattle.code_form.specs.declared.instr.Instr.{Instr}
use Rattle.ir_tree.specs.declared.operand.Opd.{Opd}
use Rattle.ir_tree.specs.declared.operand.Opd.TheVariants as opd
use Rattle.ir_tree.specs.declared.op.Op.{Op}
use Rattle.ir_tree.specs.declared.op.Op.TheVariants as op
use Rattle.ir_rules.specs.Types.{Kinds}
use Rattle.ir_rules.specs.Parts.{Typed}
use Rattle.mutant_maker.specs.Makers.{operations, predicates, is_wide, values_of, with_value}

-- ---- what is tried

-- each of the thirteen operations
abbrev pub tried_operations : Op → List Op
tried_operations (op.Bin b t x y) = map (λ k. op.Bin k t x y) operations
tried_operations _ = []

-- each of the ten predicates
abbrev pub tried_predicates : Op → List Op
tried_predicates (op.Cmp p t x y) = map (λ k. op.Cmp k t x y) predicates
tried_predicates _ = []

-- a number of i8 to i64 plus 1, minus 1, 0 and 1, modulo 2 ^ w
abbrev pub tried_words : Width → ℕ → List ℕ
tried_words w a = (a + 1) % 2 ^ bits_of w ∷ (a + (2 ^ bits_of w - 1)) % 2 ^ bits_of w ∷ 0 ∷ 1 ∷ []

abbrev pub tried_numbers : Option TyScalar → Opd → List ℤ
tried_numbers (Some (scalar.Int w)) (opd.Number z) = if is_wide w then map (signed w) (tried_words w (word_of w z)) else []
tried_numbers _ _ = []

abbrev pub tried_from : Kinds → Op → ℕ → List Typed → List Op
tried_from kind o k [] = []
tried_from kind o k (v ∷ vs) = map (λ z. with_value o k (opd.Number z)) (tried_numbers (kind v.0) v.1) ++ tried_from kind o (k + 1) vs

-- the operands, the values or the labels swapped
abbrev pub tried_swaps : Op → List Op
tried_swaps (op.Bin b t x y) = op.Bin b t y x ∷ []
tried_swaps (op.Cmp p t x y) = op.Cmp p t y x ∷ []
tried_swaps (op.Select c i t x u y) = op.Select c i u y t x ∷ []
tried_swaps (op.Branch t i m n) = op.Branch t i n m ∷ []
tried_swaps _ = []

-- the conditions true and false
abbrev pub tried_conditions : Op → List Op
tried_conditions (op.Select c i t x u y) = op.Select c opd.True t x u y ∷ op.Select c opd.False t x u y ∷ []
tried_conditions (op.Branch t i m n) = op.Branch t opd.True m n ∷ op.Branch t opd.False m n ∷ []
tried_conditions _ = []

-- what is tried in the place of an instruction, in order
abbrev pub tried : Kinds → Op → List Op
tried kind o = tried_operations o ++ (tried_predicates o ++ (tried_from kind o 0 (values_of o) ++ (tried_swaps o ++ tried_conditions o)))

-- ---- what is left of it

-- an instruction is one of these
abbrev pub IsAmong : Instr → List Instr → Type 0
IsAmong i [] = ⊥
IsAmong i (j ∷ js) = (i ≡ j) ⊎ IsAmong i js

-- by their codes these are left of the tried ones: one is left out exactly where its code is one of those before it, the original's among them
abbrev pub AreLeft : (Op → Instr) → List Instr → List Op → List Op → Type 0
AreLeft code before [] left = left ≡ []
AreLeft code before (p ∷ ps) left = (IsAmong (code p) before × AreLeft code before ps left)
    ⊎ ((IsAmong (code p) before → ⊥) × (more : List Op) × (left ≡ p ∷ more) × AreLeft code (before ++ code p ∷ []) ps more)
