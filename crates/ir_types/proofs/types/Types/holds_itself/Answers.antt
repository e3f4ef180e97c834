use Rattle.std.proofs.Common.{ap, sym, ◌∙◌}
use Rattle.std.specs.Option.{option_copied}
use Rattle.ir_rules.specs.Types.{type_defs, holds_itself}
use Rattle.ir_types.specs.Known.{Known}
use Rattle.ir_types.proofs.Leading.{unnamed-holds}
use Rattle.ir_types.proofs.types.Types.holds_itself.Goals as goal

pub returns-in-None : goal.returns-in-None
returns-in-None c =
    sym (unnamed-holds (type_defs c.self.inside.items.now) c.self.inside.numbers c.self.invariant.numbered c.args.name.now
    (sym c.get.ensures ∙ ap option_copied c.in-None.is))
    ∙ ap (λ (k : Known). holds_itself k.defs c.args.name.now) c.self.view_is
