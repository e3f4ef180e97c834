use Rattle.std.proofs.Common.{[]}
use Rattle.ir_rules.specs.Memory.{addresses_of}
use Rattle.ir_rules.specs.Types.{type_defs}
use Rattle.instruction_list.proofs.Beside.{beside}
use Rattle.instruction_list.proofs.laws.lines_are_the_code.Goals as goal

pub returns : goal.returns
returns c items signs = beside items signs (addresses_of (type_defs items) items) [] 0 0 items
