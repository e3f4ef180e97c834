-- When a code is sound: what every machine may rely on.
use Rattle.std.specs.Prelude.{◌≡◌, ◌⊎◌, ◌↔◌, ℕ, ◌+◌, ◌-◌, ◌^◌, ◌<◌, ◌≤◌, true, false, List, [], ◌∷◌, length, take, map, flat_map, Option, Some, None, slice_get}
use Rattle.std.specs.Prelude.{Contains, All}
use Rattle.am_base.specs.declared.word.Width.{Width}
use Rattle.am_base.specs.declared.word.Width.TheVariants.{W1, W32, W64}
use Rattle.am_base.specs.declared.word.Cast.{Cast as Conversion}
use Rattle.am_base.specs.declared.word.Cast.TheVariants.{Trunc, ZExt, SExt, PtrToInt, IntToPtr}
use Rattle.am_base.specs.Word.{IsWord, bits_of}
use Rattle.am_base.specs.declared.limits.TheConstants.{MAX_FUNCTIONS, MAX_INSTRUCTIONS, MAX_FUNCTION_REGISTERS, MAX_TYPE_BYTES, MEMORY_BYTES, FIRST_ADDRESS}
use Rattle.code_form.specs.declared.instr.Operand.{Operand}
use Rattle.code_form.specs.declared.instr.Operand.TheVariants.{Reg, Word}
use Rattle.code_form.specs.declared.instr.Callee.{Callee}
use Rattle.code_form.specs.declared.instr.Callee.TheVariants.{Func as CallFunc, Port, PutChar, GetChar, Exit, Abort}
use Rattle.code_form.specs.declared.instr.Instr.{Instr}
use Rattle.code_form.specs.declared.instr.Instr.TheVariants.{Bin, Cmp, Select, Cast, Freeze, Alloca, Load, Store, Get, Phi, Call, Jump, Branch, Switch, Ret}
use Rattle.code_form.specs.declared.instr.Instr.TheVariants.{Unreachable}
use Rattle.code_form.specs.declared.code.TyScalar.{TyScalar}
use Rattle.code_form.specs.declared.code.TyScalar.TheVariants.{Int, Ptr}
use Rattle.code_form.specs.declared.code.Block.{Block}
use Rattle.code_form.specs.declared.code.Func.{Func}
use Rattle.code_form.specs.declared.code.Code.{Code}
use Rattle.code_form.specs.declared.sign.PortSign.{PortSign}
use Rattle.code_form.specs.Places.{instr_at, result_at, is_phi, is_terminator, labels_of}

-- the width of a type: a pointer has 64 bits
abbrev pub width_of : TyScalar → Width
width_of (Int w) = w
width_of Ptr = W64

-- ---- operands and results, over the types of the registers

-- a register of the type, or a word of its width
abbrev pub HasType : List TyScalar → TyScalar → Operand → Type 0
HasType types t (Reg r) = slice_get types r ≡ Some t
HasType types t (Word n) = IsWord (width_of t) n

-- where an instruction has a width alone, 64 bits stand for a pointer too
abbrev pub HasWidth : List TyScalar → Width → Operand → Type 0
HasWidth types w a = (t : TyScalar) × HasType types t a × (width_of t ≡ w)

abbrev pub IsInteger : List TyScalar → Operand → Type 0
IsInteger types a = (w : Width) × HasType types (Int w) a

-- the instruction writes a register of the type
abbrev pub Gives : List TyScalar → Option ℕ → TyScalar → Type 0
Gives types None t = ⊥
Gives types (Some r) t = slice_get types r ≡ Some t

abbrev pub GivesWidth : List TyScalar → Option ℕ → Width → Type 0
GivesWidth types r w = (t : TyScalar) × Gives types r t × (width_of t ≡ w)

-- the instruction writes a register of the type, or none where there is no type
abbrev pub GivesMaybe : List TyScalar → Option ℕ → Option TyScalar → Type 0
GivesMaybe types r None = r ≡ None
GivesMaybe types r (Some t) = Gives types r t

-- the operands have the types, one by one
abbrev pub HaveTypes : List TyScalar → List TyScalar → List Operand → Type 0
HaveTypes types [] [] = Unit {0}
HaveTypes types [] (a ∷ more) = ⊥
HaveTypes types (t ∷ ts) [] = ⊥
HaveTypes types (t ∷ ts) (a ∷ more) = HasType types t a × HaveTypes types ts more

-- ---- instructions

abbrev pub CastFits : List TyScalar → Option ℕ → Conversion → Width → Width → Operand → Type 0
CastFits types r Trunc from to a = (bits_of to < bits_of from) × HasType types (Int from) a × Gives types r (Int to)
CastFits types r ZExt from to a = (bits_of from < bits_of to) × HasType types (Int from) a × Gives types r (Int to)
CastFits types r SExt from to a = (bits_of from < bits_of to) × HasType types (Int from) a × Gives types r (Int to)
CastFits types r PtrToInt from to a = (from ≡ W64) × HasType types Ptr a × Gives types r (Int to)
CastFits types r IntToPtr from to a = (to ≡ W64) × HasType types (Int from) a × Gives types r Ptr

abbrev pub IsAlignment : ℕ → Type 0
IsAlignment n = (n ≡ 1) ⊎ (n ≡ 2) ⊎ (n ≡ 4) ⊎ (n ≡ 8)

abbrev pub result_type : Option Width → Option TyScalar
result_type None = None
result_type (Some w) = Some (Int w)

-- the call goes to something that the code knows, and has its parameters and its result
abbrev pub CallFits : Code → List TyScalar → Option ℕ → Callee → List Operand → Type 0
CallFits code types r (CallFunc g) args = (f : Func) × (slice_get code.funcs g ≡ Some f) × HaveTypes types f.params args × GivesMaybe types r f.result
CallFits code types r (Port p) args = (sign : PortSign) × (slice_get code.signs p ≡ Some sign) × HaveTypes types (map (λ w. Int w) sign.params) args
    × GivesMaybe types r (result_type sign.result)
CallFits code types r PutChar args = HaveTypes types (Int W32 ∷ []) args × Gives types r (Int W32)
CallFits code types r GetChar args = HaveTypes types [] args × Gives types r (Int W32)
CallFits code types r Exit args = HaveTypes types (Int W32 ∷ []) args × (r ≡ None)
CallFits code types r Abort args = HaveTypes types [] args × (r ≡ None)

-- a block of the function other than its first
abbrev pub IsTarget : Func → ℕ → Type 0
IsTarget f b = (0 < b) × (b < length f.blocks)

-- no number stands twice
abbrev pub AreDistinct : List ℕ → Type 0
AreDistinct ns = (i j n : ℕ) → slice_get ns i ≡ Some n → slice_get ns j ≡ Some n → i ≡ j

-- the operands, the result, the callee and the labels of an instruction of the function fit; r is the register that it writes
abbrev pub InstrFits : Code → Func → Option ℕ → Instr → Type 0
InstrFits code f r (Bin op w a b) = HasWidth f.types w a × HasWidth f.types w b × GivesWidth f.types r w
InstrFits code f r (Cmp p w a b) = HasWidth f.types w a × HasWidth f.types w b × Gives f.types r (Int W1)
InstrFits code f r (Select c a b) = HasType f.types (Int W1) c × ((t : TyScalar) × HasType f.types t a × HasType f.types t b × Gives f.types r t)
InstrFits code f r (Cast c from to a) = CastFits f.types r c from to a
InstrFits code f r (Freeze a) = (t : TyScalar) × HasType f.types t a × Gives f.types r t
InstrFits code f r (Alloca size align count) = (size ≤ MAX_TYPE_BYTES) × IsAlignment align × IsInteger f.types count × Gives f.types r Ptr
InstrFits code f r (Load w a) = HasType f.types Ptr a × GivesWidth f.types r w
InstrFits code f r (Store w a b) = HasWidth f.types w a × HasType f.types Ptr b × (r ≡ None)
InstrFits code f r (Get a literal indices) = HasType f.types Ptr a × (literal < 2 ^ 64) × All (λ i. (i.0 < 2 ^ 64) × HasType f.types (Int i.1) i.2) indices
    × Gives f.types r Ptr
InstrFits code f r (Phi entries) =
    (t : TyScalar) × All (λ e. (e.0 < length f.blocks) × HasType f.types t e.1) entries × AreDistinct (map (λ e. e.0) entries) × Gives f.types r t
InstrFits code f r (Call callee args) = CallFits code f.types r callee args
InstrFits code f r (Jump b) = IsTarget f b × (r ≡ None)
InstrFits code f r (Branch c b d) = HasType f.types (Int W1) c × IsTarget f b × IsTarget f d × (r ≡ None)
InstrFits code f r (Switch w a other cases) =
    HasWidth f.types w a × IsTarget f other × All (λ c. IsWord w c.0 × IsTarget f c.1) cases × AreDistinct (map (λ c. c.0) cases) × (r ≡ None)
InstrFits code f r (Ret None) = (f.result ≡ None) × (r ≡ None)
InstrFits code f r (Ret (Some a)) = ((t : TyScalar) × (f.result ≡ Some t) × HasType f.types t a) × (r ≡ None)
InstrFits code f r Unreachable = r ≡ None

-- ---- blocks, functions and the whole

-- each `phi` has an entry for the block with this number
abbrev pub HasEntryFor : ℕ → Instr → Type 0
HasEntryFor k (Phi entries) = Contains (map (λ e. e.0) entries) k
HasEntryFor k _ = Unit {0}

-- block b of a function: its `phi` stand first, its only terminator last, and its instructions fit
pub record IsSoundBlock (code : Code) (f : Func) (b : ℕ) (block : Block) : Type 0 where
  pub some : 0 < block.len
  pub ends : (i : ℕ) → i < block.len → (is_terminator (instr_at code (block.first + i)) ≡ true) ↔ (i + 1 ≡ block.len)
  pub phis_first : (i : ℕ) → i + 1 < block.len → is_phi (instr_at code (block.first + i + 1)) ≡ true → is_phi (instr_at code (block.first + i)) ≡ true
  pub no_entry_phi : b ≡ 0 → is_phi (instr_at code block.first) ≡ false
  pub fits : (i : ℕ) → i < block.len → InstrFits code f (result_at code (block.first + i)) (instr_at code (block.first + i))
  pub entries : (k : ℕ) (from : Block) (i : ℕ) → slice_get f.blocks k ≡ Some from → Contains (labels_of (instr_at code (from.first + from.len - 1))) b
      → i < block.len → HasEntryFor k (instr_at code (block.first + i))

-- the place is one of the function's
pub record IsPlaceOf (f : Func) (at : ℕ) : Type 0 where
  pub block : Block
  pub number : ℕ
  pub is : slice_get f.blocks number ≡ Some block
  pub from : block.first ≤ at
  pub below : at < block.first + block.len

-- a function of the code: its registers are its parameters and the results of its instructions, each once
pub record IsSoundFunc (code : Code) (f : Func) : Type 0 where
  pub some : 0 < length f.blocks
  pub few : f.registers ≤ MAX_FUNCTION_REGISTERS
  pub typed : length f.types ≡ f.registers
  pub params : take (length f.params) f.types ≡ f.params
  pub blocks : (b : ℕ) (block : Block) → slice_get f.blocks b ≡ Some block → IsSoundBlock code f b block
  pub beyond_params : (at r : ℕ) → IsPlaceOf f at → result_at code at ≡ Some r → length f.params ≤ r
  pub once : (at bt r : ℕ) → IsPlaceOf f at → IsPlaceOf f bt → result_at code at ≡ Some r → result_at code bt ≡ Some r → at ≡ bt

-- the blocks cover the places from one to another, in order, without a gap and without overlap
abbrev pub AreLaid : ℕ → List Block → ℕ → Type 0
AreLaid from [] to = from ≡ to
AreLaid from (b ∷ rest) to = (b.first ≡ from) × AreLaid (from + b.len) rest to

pub record IsSound (code : Code) : Type 0 where
  pub few_funcs : length code.funcs ≤ MAX_FUNCTIONS
  pub few_instrs : length code.instrs ≤ MAX_INSTRUCTIONS
  pub results : length code.results ≡ length code.instrs
  pub memory : length code.memory ≡ code.stack_base
  pub base : code.stack_base ≤ MEMORY_BYTES
  pub constants_from : FIRST_ADDRESS ≤ code.const_end
  pub constants_to : code.const_end ≤ code.stack_base
  pub names : (g h : ℕ) (e f : Func) → slice_get code.funcs g ≡ Some e → slice_get code.funcs h ≡ Some f → e.name ≡ f.name → g ≡ h
  pub laid : AreLaid 0 (flat_map (λ (f : Func). f.blocks) code.funcs) (length code.instrs)
  pub funcs : (g : ℕ) (f : Func) → slice_get code.funcs g ≡ Some f → IsSoundFunc code f
