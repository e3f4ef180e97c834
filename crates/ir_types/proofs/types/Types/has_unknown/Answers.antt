use Rattle.std.proofs.Common.{ap, ◌∙◌}
use Rattle.ir_rules.specs.Types.{type_defs, has_unknown}
use Rattle.ir_types.specs.Known.{Known}
use Rattle.ir_types.proofs.Leading.{unknown-same}
use Rattle.ir_types.proofs.types.Types.has_unknown.Goals as goal

pub returns : goal.returns
returns c =
    c.names_unknown_type.ensures ∙ unknown-same (type_defs c.self.inside.items.now) c.self.inside.numbers c.self.invariant.numbered c.args.ty.now
    ∙ ap (λ (k : Known). has_unknown k.defs c.args.ty.now) c.self.view_is
