use Rattle.std.proofs.Common.{refl, sym, ◌∙◌}
use Rattle.ir_reader.proofs.Turns.{no_item, not_allowed}
use Rattle.ir_reader.proofs.modules.next_item.Goals as goal

pub returns-in-Err-NotHere : goal.returns-in-Err-NotHere
returns-in-Err-NotHere c = (refl, no_item c.args.inside c.args.cursor.now (rw c.in-Err-NotHere.field-0-is at c.in-Err-NotHere.ensures))

pub returns-else-is_allowed : goal.returns-else-is_allowed
returns-else-is_allowed c = (
  refl,
  not_allowed c.args.inside c.args.cursor.now c.in-Ok.found c.item.new.cursor c.in-Ok.ensures (sym c.is_allowed.ensures
      ∙ c.if-is_allowed.false),
)
