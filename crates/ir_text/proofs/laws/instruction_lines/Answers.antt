use Rattle.ir_text.proofs.Printed.{instruction-line}
use Rattle.ir_text.proofs.laws.instruction_lines.Goals as goal

pub returns : goal.returns
returns c = instruction-line
