use Rattle.std.proofs.Common.{Bor, ◌||◌, ap, ◌∙◌}
use Rattle.ir_tree.specs.declared.type_text.TyText.{TyText}
use Rattle.ir_tree.specs.declared.operand.Opd.{Opd}
use Rattle.ir_rules.specs.Types.{TypeDefs}
use Rattle.ir_rules.specs.Paths as spec
use Rattle.ir_type_rules.proofs.Loops.{any-more}
use Rattle.ir_type_rules.proofs.paths.some_no_path.Goals as goal

pub each-preserved : goal.each-preserved
each-preserved c = record {
  defs = c.in_ok-here.ensures.defs ∙ c.each.invariant.defs;
  found =
      any-more (λ (v : Bor TyText × Bor Opd). spec.no_constant_path c.args.types.now.defs v.1.now) c.args.operands.now c.each.operand-index c.operand-item.result
      c.each.found c.either-found.result
      c.each-test.true c.operand-item.is c.each.invariant.found
      (c.either-found.ensures ∙ ap (λ b. c.each.found || b) (c.in_ok-here.ensures.broken
      ∙ ap (λ (ds : TypeDefs). spec.no_constant_path ds c.operand-item.result.1.now) c.each.invariant.defs));
}
