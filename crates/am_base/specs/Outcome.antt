-- The numbers of the traps.
use Rattle.std.specs.Prelude.{ℕ}
use Rattle.am_base.specs.declared.outcome.Trap.{Trap}
use Rattle.am_base.specs.declared.outcome.Trap.TheVariants.{DivideByZero, DivideOverflow, AddressRange, ConstantWrite, UnsetRegister, Unreachable, Abort}
use Rattle.am_base.specs.declared.outcome.Trap.TheVariants.{DepthFull, RegistersFull, MemoryFull, OutputFull, PortRefused}

-- the place of a trap in the list of traps, from 1
abbrev pub trap_number : Trap → ℕ
trap_number DivideByZero = 1
trap_number DivideOverflow = 2
trap_number AddressRange = 3
trap_number ConstantWrite = 4
trap_number UnsetRegister = 5
trap_number Unreachable = 6
trap_number Abort = 7
trap_number DepthFull = 8
trap_number RegistersFull = 9
trap_number MemoryFull = 10
trap_number OutputFull = 11
trap_number PortRefused = 12
