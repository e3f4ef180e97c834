use Rattle.std.proofs.Common.{[], ap, ◌∙◌}
use Rattle.ir_names.specs.Names.{defined}
use Rattle.ir_names.proofs.Defined.{defined-firsts}
use Rattle.ir_call_rules.specs.Ports.{numbered}
use Rattle.ir_call_rules.proofs.ports.Ports.number_of.Goals as goal

pub returns : goal.returns
returns c =
    c.copied.ensures
    ∙ c.get.ensures
    ∙ ap (λ t. defined t c.args.name.now) c.self.invariant
    ∙ defined-firsts (numbered 0 c.self.inside.signs.now) [] c.args.name.now
    ∙ ap (λ signs. defined (numbered 0 signs) c.args.name.now) c.self.view_is
