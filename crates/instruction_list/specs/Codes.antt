-- A line beside an instruction of the code.
use Rattle.std.specs.Prelude.{◌≡◌}
use Rattle.code_form.specs.declared.instr.Instr.{Instr}
use Rattle.ir_tree.specs.declared.op.Op.{Op}
use Rattle.ir_rules.specs.Codes.{op_code}
use Rattle.ir_rules.specs.Memory.{Addresses}
use Rattle.ir_rules.specs.Settings.{Setting}
use Rattle.ir_text.specs.Lines.{instruction_text}
use Rattle.instruction_list.specs.declared.line.Line.{Line}

-- the line has the text of an instruction whose code this is
pub record IsLineOf (addresses : Addresses) (line : Line) (code : Instr) : Type 0 where
  pub setting : Setting
  pub op : Op
  pub text : line.text ≡ instruction_text op
  pub code_is : code ≡ op_code setting addresses op
