use Rattle.std.proofs.Common.{ap, ◌∙◌}
use Rattle.ir_names.specs.Names.{defined}
use Rattle.ir_names.proofs.SameNames.{get-defined}
use Rattle.ir_names.proofs.name_table.NameTable.get.Goals as goal

pub returns : goal.returns
returns g c = c.get.ensures.value ∙ get-defined c.self.inside.map.entries c.args.name.now ∙ ap (λ es. defined es c.args.name.now) c.self.view_is
