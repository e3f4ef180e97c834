use Rattle.std.proofs.Common.{ap, arith}
use Rattle.ir_types.specs.Known.{Known}
use Rattle.ir_types.proofs.KindTables.{kinds-of}
use Rattle.ir_types.proofs.types.Types.kinds.Goals as goal

pub returns : goal.returns
returns c =
    kinds-of c.self.inside.items.now c.args.self.now.defs c.each.item-index c.each.names (ap (λ (k : Known). k.defs) c.self.view_is) (omega arith)
    c.each.invariant
