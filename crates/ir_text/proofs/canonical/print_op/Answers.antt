use Rattle.std.proofs.Common.{◌∙◌}
use Rattle.ir_text.specs.Parts.{op_lexemes}
use Rattle.ir_text.proofs.Printed.{whole_text}
use Rattle.ir_text.proofs.canonical.print_op.Goals as goal

pub returns : goal.returns
returns c = c.into_vec.ensures ∙ whole_text c.new-sheet.result c.put_op.new.sheet
    (op_lexemes c.args.op.now) c.new-sheet.ensures.0 c.new-sheet.ensures.1 c.in_ok-put_op.ensures
