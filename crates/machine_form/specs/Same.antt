-- The test whether two changes are equal.
use Rattle.std.specs.Prelude.{ℕ, Bool, true, false, ◌==◌, ◌&&◌, Option, Some, None}
use Rattle.std.specs.Cmp.Lexicographic.{pointwise}
use Rattle.am_base.specs.declared.outcome.Ending.{Ending}
use Rattle.am_base.specs.declared.outcome.Ending.TheVariants.{Return, Exit, Trap as Trapped, Budget}
use Rattle.am_base.specs.declared.outcome.Trap.{Trap}
use Rattle.am_base.specs.declared.outcome.Trap.TheVariants.{DivideByZero, DivideOverflow, AddressRange, ConstantWrite, UnsetRegister, Unreachable, Abort}
use Rattle.am_base.specs.declared.outcome.Trap.TheVariants.{DepthFull, RegistersFull, MemoryFull, OutputFull, PortRefused}
use Rattle.machine_form.specs.declared.change.Change.{Change}
use Rattle.machine_form.specs.declared.change.Control.{Control}
use Rattle.machine_form.specs.declared.change.Control.TheVariants.{Next, Jump, Enter, Leave, End}

abbrev pub same_bool : Bool → Bool → Bool
same_bool true b = b
same_bool false true = false
same_bool false false = true

abbrev pub same_option : Option ℕ → Option ℕ → Bool
same_option None None = true
same_option (Some x) (Some y) = x == y
same_option _ _ = false

abbrev pub same_pair : ℕ × ℕ → ℕ × ℕ → Bool
same_pair x y = (x.0 == y.0) && (x.1 == y.1)

abbrev pub same_trap : Trap → Trap → Bool
same_trap DivideByZero DivideByZero = true
same_trap DivideOverflow DivideOverflow = true
same_trap AddressRange AddressRange = true
same_trap ConstantWrite ConstantWrite = true
same_trap UnsetRegister UnsetRegister = true
same_trap Unreachable Unreachable = true
same_trap Abort Abort = true
same_trap DepthFull DepthFull = true
same_trap RegistersFull RegistersFull = true
same_trap MemoryFull MemoryFull = true
same_trap OutputFull OutputFull = true
same_trap PortRefused PortRefused = true
same_trap _ _ = false

abbrev pub same_ending : Ending → Ending → Bool
same_ending (Return x) (Return y) = same_option x y
same_ending (Exit x) (Exit y) = x == y
same_ending (Trapped t) (Trapped u) = same_trap t u
same_ending Budget Budget = true
same_ending _ _ = false

abbrev pub same_control : Control → Control → Bool
same_control Next Next = true
same_control (Jump b) (Jump d) = b == d
same_control (Enter f) (Enter g) = f == g
same_control Leave Leave = true
same_control (End d) (End e) = same_ending d e
same_control _ _ = false

abbrev pub same_change : Change → Change → Bool
same_change c d =
    pointwise same_pair c.writes d.writes && pointwise same_pair c.bytes d.bytes && (c.top == d.top) && same_option c.put d.put && same_bool c.took d.took
    && same_control c.control d.control
