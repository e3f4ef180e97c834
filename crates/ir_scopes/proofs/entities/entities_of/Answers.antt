use Rattle.std.proofs.Common.{ap, ◌∙◌}
use Rattle.ir_scopes.specs.declared.entities.Globals.{Globals}
use Rattle.ir_scopes.specs.Kinds.{kind_in}
use Rattle.ir_scopes.proofs.Gathered.{gathered-firsts}
use Rattle.ir_scopes.proofs.entities.entities_of.Goals as goal

pub returns : goal.returns
returns c = ap (λ (g : Globals). g.table) c.in_ok-globals.ensures ∙ gathered-firsts (kind_in c.args.kinds.now.names) c.args.items.now
