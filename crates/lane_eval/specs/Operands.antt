-- What the instructions ask of the words that their operands have.
use Rattle.std.specs.Prelude.{◌≡◌, ℕ, ◌+◌, ◌^◌, ◌<◌, ◌≤◌, Bool, true, false, length, List, Some, slice_get, All}
use Rattle.am_base.specs.declared.limits.TheConstants.{MEMORY_BYTES}
use Rattle.am_base.specs.declared.word.Width.{Width}
use Rattle.am_base.specs.Word.{IsWord}
use Rattle.code_form.specs.declared.instr.Operand.{Operand}
use Rattle.code_form.specs.declared.instr.Callee.{Callee}
use Rattle.code_form.specs.declared.instr.Callee.TheVariants.{Func, Port, PutChar, GetChar, Exit, Abort}
use Rattle.code_form.specs.declared.instr.Instr.{Instr}
use Rattle.code_form.specs.declared.instr.Instr.TheVariants.{Bin, Cmp, Select, Cast, Freeze, Alloca, Load, Store, Get, Phi, Call, Jump, Branch, Switch, Ret, Unreachable}
use Rattle.code_form.specs.declared.sign.PortSign.{PortSign}
use Rattle.code_form.specs.declared.code.Code.{Code}
use Rattle.code_form.specs.Places.{function_of, block_of}
use Rattle.machine_form.specs.State.{State}
use Rattle.machine_form.specs.Straight.{value_of, values_of}
use Rattle.ports.specs.Words.{AreWords}

-- where the operand is set, its word is one of the width
abbrev pub HoldsWord : State → Width → Operand → Type 0
HoldsWord s w a = (x : ℕ) → value_of s a ≡ Some x → IsWord w x

-- the bytes fill the memory, and the stack top is within them
pub record HasMemory (s : State) : Type 0 where
  pub bytes : length s.bytes ≡ MEMORY_BYTES
  pub top : s.top ≤ MEMORY_BYTES

-- an alignment of a type of the profile
abbrev pub IsSmallAlignment : ℕ → Type 0
IsSmallAlignment align = (0 < align) × (align ≤ 8)

-- a place is one of the code, its function has the block, and the block lies in the code
pub record CanGoFrom (code : Code) (at b : ℕ) : Type 0 where
  pub within : at < length code.instrs
  pub block : b < length (function_of code at).blocks
  pub inside : (block_of code at b).first + (block_of code at b).len ≤ length code.instrs
  pub few : length code.instrs < 2 ^ 32
  pub results : length code.results ≡ length code.instrs

-- the running frame can go to the block
abbrev pub CanGo : Code → State → ℕ → Type 0
CanGo code s b = CanGoFrom code s.running.place b

-- the callee is one of the code's functions or an outside function that isn't a port, and an outside function has as many arguments as it has parameters
abbrev pub CanCall : Code → Callee → List Operand → Type 0
CanCall code (Func f) args = (f < length code.funcs) × (length args < 2 ^ 32)
CanCall code (Port p) args = ⊥
CanCall code PutChar args = length args ≡ 1
CanCall code GetChar args = length args ≡ 0
CanCall code Exit args = length args ≡ 1
CanCall code Abort args = length args ≡ 0

-- what a step of an instruction that calls no port asks of the words that its operands hold, and of where it goes
abbrev pub CanStep : Code → State → Instr → Type 0
CanStep code s (Bin op w a b) = HoldsWord s w a × HoldsWord s w b
CanStep code s (Cmp p w a b) = HoldsWord s w a × HoldsWord s w b
CanStep code s (Select c a b) = Unit {0}
CanStep code s (Cast c from to a) = HoldsWord s from a
CanStep code s (Freeze a) = Unit {0}
CanStep code s (Alloca size align count) = HasMemory s × IsSmallAlignment align
CanStep code s (Load w a) = HasMemory s
CanStep code s (Store w a b) = HasMemory s
CanStep code s (Get a literal indices) = All (λ i. HoldsWord s i.1 i.2) indices
CanStep code s (Phi entries) = Unit {0}
CanStep code s (Call callee args) = CanCall code callee args
CanStep code s (Jump b) = CanGo code s b
CanStep code s (Branch c b d) = CanGo code s b × CanGo code s d
CanStep code s (Switch w a other cases) = CanGo code s other × All (λ c. CanGo code s c.1) cases
CanStep code s (Ret a) = Unit {0}
CanStep code s Unreachable = Unit {0}

-- ---- ports

abbrev pub is_port_call : Instr → Bool
is_port_call (Call (Port p) args) = true
is_port_call _ = false

-- the port is one of the code, and where its arguments are set, they are words of its parameters
pub record CanAsk (code : Code) (s : State) (p : ℕ) (args : List Operand) : Type 0 where
  pub sign : PortSign
  pub is : slice_get code.signs p ≡ Some sign
  pub words : (xs : List ℕ) → values_of s args ≡ Some xs → AreWords sign.params xs

-- what the change of any instruction asks
abbrev pub CanChange : Code → State → Instr → Type 0
CanChange code s (Call (Port p) args) = CanAsk code s p args
CanChange code s i = CanStep code s i
