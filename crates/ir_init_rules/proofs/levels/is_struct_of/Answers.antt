use Rattle.std.proofs.Common.{◌∙◌}
use Rattle.std.specs.Option.{option_copied}
use Rattle.ir_init_rules.proofs.Parts.{struct-found}
use Rattle.ir_init_rules.proofs.levels.is_struct_of.Goals as goal

pub returns : goal.returns
returns c = c.struct_level.ensures ∙ struct-found c.args.table.now c.args.n (option_copied c.shape.result) c.requires c.shape.ensures.shape c.args.count
