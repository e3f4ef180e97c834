use Rattle.ir_sound.proofs.Whole.{items-whole}
use Rattle.code_rows.proofs.call.show_read.Goals as goal

pub show_module-requires-clause-whole : goal.show_module-requires-clause-whole
show_module-requires-clause-whole c = items-whole _ _ _ c.in-Ok.ensures.items
