-- The numbers of the statuses, and the status of each refusal.
use Rattle.std.specs.Prelude.{ℕ}
use Rattle.command_plan.specs.declared.status.Input.{Input}
use Rattle.command_plan.specs.declared.status.Input.TheVariants as input
use Rattle.command_plan.specs.declared.status.Status.{Status}
use Rattle.command_plan.specs.declared.status.Status.TheVariants.{Done, Usage, ModuleRefused, MutantsRefused, TestsRefused, ReadFault, WriteFault, OutOfMemory}
use Rattle.command_plan.specs.declared.status.Status.TheVariants.{TooLong, TooMany}

abbrev pub number_of : Status → ℕ
number_of Done = 0
number_of Usage = 1
number_of ModuleRefused = 2
number_of MutantsRefused = 3
number_of TestsRefused = 4
number_of ReadFault = 5
number_of WriteFault = 6
number_of OutOfMemory = 7
number_of TooLong = 8
number_of TooMany = 9

-- the status of a refusal of an input
abbrev pub refused : Input → Status
refused input.Module = ModuleRefused
refused input.Mutants = MutantsRefused
refused input.Tests = TestsRefused
