use Rattle.std.proofs.Common.{◌∙◌}
use Rattle.std.specs.Option.{option_copied}
use Rattle.ir_init_rules.proofs.Parts.{text-found}
use Rattle.ir_init_rules.proofs.levels.text_fits.Goals as goal

pub returns : goal.returns
returns c =
    let ts = c.args.table.now in
    c.text_level.ensures ∙ text-found ts c.args.n (option_copied c.shape.result) c.requires c.shape.ensures.shape c.args.text.now
