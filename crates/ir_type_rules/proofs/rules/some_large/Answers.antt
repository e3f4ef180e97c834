use Rattle.std.proofs.Common.{Bor, ◌||◌, ap, ◌∙◌}
use Rattle.ir_tree.specs.declared.type_text.TyText.{TyText}
use Rattle.ir_rules.specs.Types.{TypeDefs, is_large}
use Rattle.ir_type_rules.proofs.Loops.{any-more}
use Rattle.ir_type_rules.proofs.rules.some_large.Goals as goal

pub each-preserved : goal.each-preserved
each-preserved c = record {
  defs = c.in_ok-here.ensures.defs ∙ c.each.invariant.defs;
  found =
      any-more (λ (t : Bor TyText). is_large c.args.types.now.defs t.now) c.args.list.now c.each.ty-index c.ty-item.result c.each.found c.either-found.result
      c.each-test.true c.ty-item.is c.each.invariant.found
      (c.either-found.ensures ∙ ap (λ b. c.each.found || b) (c.in_ok-here.ensures.large
      ∙ ap (λ (ds : TypeDefs). is_large ds c.ty-item.result.now) c.each.invariant.defs));
}
