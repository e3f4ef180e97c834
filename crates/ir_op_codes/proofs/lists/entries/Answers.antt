use Rattle.std.proofs.Common.{sym, subst}
use Rattle.ir_tree.specs.declared.name.Name.{Name}
use Rattle.ir_tree.specs.declared.operand.Opd.{Opd}
use Rattle.ir_rules.specs.Types.{TypeDefs}
use Rattle.ir_op_codes.specs.Words.{IsFit}
use Rattle.ir_op_codes.proofs.lists.entries.Goals as goal

pub typed-requires : goal.typed-requires
typed-requires c =
    subst (λ (ds : TypeDefs). IsFit ds c.e-item.result.0) (sym c.each.invariant.defs)
    (subst (λ (e : Opd × Name). IsFit c.args.types.now.defs e.0) (sym c.e-item.is) (c.requires c.each.e-index c.e-item.result c.each-test.true))
