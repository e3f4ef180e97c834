use Rattle.std.proofs.Common.{ap, sym, ◌∙◌, arith}
use Rattle.ir_grammar.specs.Items.{item}
use Rattle.ir_reader.proofs.Whole.{nothing_whole, more_left, all_read}
use Rattle.ir_reader.proofs.modules.whole_instruction.Goals as goal

pub returns-then-left-gt0 : goal.returns-then-left-gt0
returns-then-left-gt0 c = more_left _ c.in-Ok.found c.item.new.cursor (ap (λ ts. item.parse ts) (sym c.new-cursor.ensures) ∙ c.in-Ok.ensures) (omega arith)

pub returns-in-Err-NotHere : goal.returns-in-Err-NotHere
returns-in-Err-NotHere c = nothing_whole _ (ap (λ ts. item.parse ts) (sym c.new-cursor.ensures) ∙ (rw c.in-Err-NotHere.field-0-is at c.in-Err-NotHere.ensures))

pub returns-else-left-gt0 : goal.returns-else-left-gt0
returns-else-left-gt0 c = all_read _ c.in-Ok.found c.item.new.cursor (ap (λ ts. item.parse ts) (sym c.new-cursor.ensures) ∙ c.in-Ok.ensures)
    (omega arith) c.bare_instruction.result c.bare_instruction.ensures
