-- The code of an instruction: names replaced by numbers.
use Rattle.std.specs.Prelude.{ℕ, List, [], ◌∷◌, ◌++◌, map, flat_map, fold, length, Option, Some, None, unwrap_or, if◌then◌else◌}
use Rattle.am_base.specs.declared.word.Width.{Width}
use Rattle.am_base.specs.declared.word.Width.TheVariants.{W64}
use Rattle.am_base.specs.Word.{word_of}
use Rattle.code_form.specs.declared.code.TyScalar.{TyScalar}
use Rattle.code_form.specs.declared.code.TyScalar.TheVariants as scalar
use Rattle.code_form.specs.declared.instr.Operand.{Operand}
use Rattle.code_form.specs.declared.instr.Operand.TheVariants.{Reg, Word}
use Rattle.code_form.specs.declared.instr.Callee.{Callee}
use Rattle.code_form.specs.declared.instr.Callee.TheVariants.{Func, Abort}
use Rattle.code_form.specs.declared.instr.Instr.{Instr}
use Rattle.code_form.specs.declared.instr.Instr.TheVariants as instr
use Rattle.type_layout.specs.Types.{size_of, align_of}
use Rattle.ir_tree.specs.declared.name.Name.{Name}
use Rattle.ir_tree.specs.declared.type_text.TyText.{TyText}
use Rattle.ir_tree.specs.declared.operand.Opd.{Opd}
use Rattle.ir_tree.specs.declared.operand.Opd.TheVariants as opd
use Rattle.ir_tree.specs.declared.op.Op.{Op}
use Rattle.ir_tree.specs.declared.op.Op.TheVariants as op
use Rattle.ir_rules.specs.declared.entity.Entity.{Entity}
use Rattle.ir_rules.specs.declared.entity.Entity.TheVariants.{Defined}
use Rattle.ir_rules.specs.declared.local.Local.{Local}
use Rattle.ir_rules.specs.declared.local.Local.TheVariants.{Value}
use Rattle.ir_rules.specs.Types.{expanded}
use Rattle.ir_rules.specs.Parts.{Typed}
use Rattle.ir_rules.specs.Entities.{name_bytes}
use Rattle.ir_rules.specs.Settings.{Setting, local_of, entity_of}
use Rattle.ir_rules.specs.Blocks.{block_number, has}
use Rattle.ir_rules.specs.Calls.{known_callee}
use Rattle.ir_rules.specs.Paths.{kind_width, Case, case_word}
use Rattle.ir_rules.specs.Memory.{Addresses, Step, scaled, field, steps_of, literal_part, constant_word}

-- a type that the rules have found to be an integer or a pointer
abbrev pub scalar_in : Option TyScalar → TyScalar
scalar_in None = scalar.Ptr
scalar_in (Some t) = t

abbrev pub register_of : Option Local → ℕ
register_of (Some (Value kind r)) = r
register_of _ = 0

-- an operand of a width: the register of a local, or a word
abbrev pub operand_code : Setting → Addresses → Width → Opd → Operand
operand_code s addresses w (opd.Local n) = Reg (register_of (local_of s n))
operand_code s addresses w a = Word (constant_word s.types addresses w a)

-- the width of the type that is written; a pointer has 64 bits
abbrev pub width_in : Setting → TyText → Width
width_in s t = kind_width (s.kind t)

abbrev pub typed_code : Setting → Addresses → TyText → Opd → Operand
typed_code s addresses t a = operand_code s addresses (width_in s t) a

abbrev pub block_code : Setting → Name → ℕ
block_code s n = block_number (local_of s n)

-- ---- parts

-- the count of an `alloca`: 1 where none is written
abbrev pub count_code : Setting → Addresses → Option Typed → Operand
count_code s addresses None = Word 1
count_code s addresses (Some v) = typed_code s addresses v.0 v.1

abbrev pub value_code : Setting → Addresses → Option Typed → Option Operand
value_code s addresses None = None
value_code s addresses (Some v) = Some (typed_code s addresses v.0 v.1)

-- the indices that are no numbers, each with its scale and width
abbrev pub index_code : Setting → Addresses → Typed × Step → List (ℕ × Width × Operand)
index_code s addresses (i, field offset) = []
index_code s addresses (i, scaled size) = unless_number i.1
  where
    unless_number : Opd → List (ℕ × Width × Operand)
    unless_number (opd.Number z) = []
    unless_number a = (size, width_in s i.0, typed_code s addresses i.0 a) ∷ []

abbrev pub get_code : Setting → Addresses → Operand → List (Typed × Step) → Instr
get_code s addresses base steps = instr.Get base (word_of W64 (literal_part s.types steps)) (flat_map (index_code s addresses) steps)

-- equal entries of one label are kept once, at the first one's place
abbrev pub entry_once : List (ℕ × Operand) → ℕ × Operand → List (ℕ × Operand)
entry_once done e = if has (map (λ (d : ℕ × Operand). d.0) done) e.0 then done else done ++ e ∷ []

abbrev pub entries_code : Setting → Addresses → TyText → List (Opd × Name) → List (ℕ × Operand)
entries_code s addresses t es = fold entry_once [] (map (λ (e : Opd × Name). (block_code s e.1, typed_code s addresses t e.0)) es)

abbrev pub case_code : Setting → TyText → Case → ℕ × ℕ
case_code s t c = (unwrap_or (case_word (width_in s t) c.1) 0, block_code s c.2)

abbrev pub callee_code : Setting → Name → Option Entity → Callee
callee_code s f (Some (Defined k sign)) = Func k
callee_code s f _ = unwrap_or (known_callee s.signs (name_bytes f)) Abort

-- ---- instructions

abbrev pub op_code : Setting → Addresses → Op → Instr
op_code s addresses (op.Bin o t a b) = instr.Bin o (width_in s t) (typed_code s addresses t a) (typed_code s addresses t b)
op_code s addresses (op.Cmp p t a b) = instr.Cmp p (width_in s t) (typed_code s addresses t a) (typed_code s addresses t b)
op_code s addresses (op.Select c i t a u b) = instr.Select (typed_code s addresses c i) (typed_code s addresses t a) (typed_code s addresses u b)
op_code s addresses (op.Cast c t a to) = instr.Cast c (width_in s t) (width_in s to) (typed_code s addresses t a)
op_code s addresses (op.Freeze t a) = instr.Freeze (typed_code s addresses t a)
op_code s addresses (op.Alloca t n) = instr.Alloca (size_of (expanded s.types t)) (align_of (expanded s.types t)) (count_code s addresses n)
op_code s addresses (op.Load t u a) = instr.Load (width_in s t) (typed_code s addresses u a)
op_code s addresses (op.Store t a u b) = instr.Store (width_in s t) (typed_code s addresses t a) (typed_code s addresses u b)
op_code s addresses (op.Get of t a is) = get_code s addresses (typed_code s addresses t a) (steps_of s.types of is)
op_code s addresses (op.Phi t es) = instr.Phi (entries_code s addresses t es)
op_code s addresses (op.Call t f xs) = instr.Call (callee_code s f (entity_of s f)) (map (λ (x : Typed). typed_code s addresses x.0 x.1) xs)
op_code s addresses (op.Jump n) = instr.Jump (block_code s n)
op_code s addresses (op.Branch t c a b) = instr.Branch (typed_code s addresses t c) (block_code s a) (block_code s b)
op_code s addresses (op.Switch t a n cs) = instr.Switch (width_in s t) (typed_code s addresses t a) (block_code s n) (map (case_code s t) cs)
op_code s addresses (op.Ret v) = instr.Ret (value_code s addresses v)
op_code s addresses op.Unreachable = instr.Unreachable
