-- The shapes of changes that the proof of the law of equal changes goes through.
use Rattle.std.proofs.Common.{◌≡◌, ◌≢◌, ◌⊎◌, ℕ, ◌+◌, ◌<◌, ◌≤◌, List, [], ◌∷◌, length, Option}
use Rattle.std.specs.Prelude.{slice_index}
use Rattle.am_base.specs.declared.outcome.Ending.{Ending}
use Rattle.code_form.specs.declared.instr.Callee.{Callee}
use Rattle.code_form.specs.declared.instr.Callee.TheVariants.{Func, Port, PutChar, GetChar, Exit, Abort}
use Rattle.code_form.specs.declared.instr.Instr.{Instr}
use Rattle.code_form.specs.declared.instr.Instr.TheVariants.{Bin, Cmp, Select, Cast, Freeze, Alloca, Load, Store, Get, Phi, Call, Jump, Branch, Switch, Ret}
use Rattle.code_form.specs.declared.instr.Instr.TheVariants.{Unreachable}
use Rattle.machine_form.specs.declared.change.Change.{Change}
use Rattle.machine_form.specs.declared.change.Control.TheVariants.{Next}
use Rattle.machine_form.specs.State.{State}
use Rattle.machine_form.specs.Straight.{write_of, end_change}

-- pairs of an address and a byte, by rising address from `low` on, that really change these bytes
abbrev pub AreReal : ℕ → List ℕ → List (ℕ × ℕ) → Type 0
AreReal low bytes [] = Unit {0}
AreReal low bytes (w ∷ ws) = (low ≤ w.0) × (w.0 < length bytes) × (slice_index bytes w.0 ≢ w.1) × AreReal (w.0 + 1) bytes ws

-- a change that goes on at the next place: at most the write of the result, and bytes that really change
pub record IsSimple (s : State) (r : Option ℕ) (c : Change) : Type 0 where
  pub word : ℕ
  pub written : c.writes ≡ write_of r word
  pub low : ℕ
  pub real : AreReal low s.bytes c.bytes
  pub goes_on : c.control ≡ Next

-- a change that goes on at the next place, or ends the run
abbrev pub IsStraightChange : State → Option ℕ → Change → Type 0
IsStraightChange s r c = IsSimple s r c ⊎ ((e : Ending) × (c ≡ end_change s e))

-- the callee is not a function of the code
abbrev pub IsNoFunction : Callee → Type 0
IsNoFunction (Func f) = ⊥
IsNoFunction (Port p) = Unit {0}
IsNoFunction PutChar = Unit {0}
IsNoFunction GetChar = Unit {0}
IsNoFunction Exit = Unit {0}
IsNoFunction Abort = Unit {0}

-- the instruction goes on at the next place, or ends the run
abbrev pub StaysInBlock : Instr → Type 0
StaysInBlock (Bin op w a b) = Unit {0}
StaysInBlock (Cmp p w a b) = Unit {0}
StaysInBlock (Select c a b) = Unit {0}
StaysInBlock (Cast c from to a) = Unit {0}
StaysInBlock (Freeze a) = Unit {0}
StaysInBlock (Alloca size align count) = Unit {0}
StaysInBlock (Load w a) = Unit {0}
StaysInBlock (Store w a b) = Unit {0}
StaysInBlock (Get a literal indices) = Unit {0}
StaysInBlock (Phi entries) = Unit {0}
StaysInBlock (Call callee args) = IsNoFunction callee
StaysInBlock (Jump b) = ⊥
StaysInBlock (Branch c b d) = ⊥
StaysInBlock (Switch w a other cases) = ⊥
StaysInBlock (Ret a) = ⊥
StaysInBlock Unreachable = Unit {0}
