use Rattle.std.proofs.Common.{◌||◌, take, ap, ◌∙◌}
use Rattle.ir_names.specs.Names.{defined, with_first}
use Rattle.ir_rules.specs.Blocks.{two_differ}
use Rattle.ir_call_rules.specs.Sources.{differs_from_first}
use Rattle.ir_call_rules.proofs.Entries.{label-more, differ-turn}
use Rattle.ir_call_rules.proofs.phis.two_differ.Goals as goal

pub each-preserved : goal.each-preserved
each-preserved c =
    let es = c.args.entries.now in
    let i = c.each.entry-index in
    let x = c.entry-item.result in
    record {
      seen =
          c.in_ok-add.ensures
          ∙ ap (λ a. with_first c.each.firsts (x.1, a)) c.in_ok-copy.ensures
          ∙ ap (λ t. with_first t (x.1, x.0)) c.each.invariant.seen
          ∙ label-more es i x c.each-test.true c.entry-item.is;
      found =
          c.either-found.ensures
          ∙ ap (λ b. b || c.differs-here.result) c.each.invariant.found
          ∙ ap (λ b. two_differ (take i es) || b) (c.differs-here.ensures ∙ ap (λ t. differs_from_first (defined t x.1) x.0) c.each.invariant.seen)
          ∙ differ-turn es i x c.each-test.true c.entry-item.is;
    }
