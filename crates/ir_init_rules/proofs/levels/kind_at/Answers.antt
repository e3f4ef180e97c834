use Rattle.std.proofs.Common.{◌∙◌}
use Rattle.std.specs.Option.{option_copied}
use Rattle.ir_types.proofs.ScalarLayers.{scalar-found}
use Rattle.ir_init_rules.proofs.levels.kind_at.Goals as goal

pub returns : goal.returns
returns c = c.kind_of_level.ensures ∙ scalar-found c.args.table.now c.args.n (option_copied c.shape.result) c.shape.ensures.shape
