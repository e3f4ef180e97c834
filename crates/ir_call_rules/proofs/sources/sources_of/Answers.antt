use Rattle.std.proofs.Common.{[], ap, ◌∙◌}
use Rattle.std.specs.List.{fold}
use Rattle.ir_rules.specs.Scopes.{with_item}
use Rattle.ir_rules.specs.Settings.{edges_at}
use Rattle.ir_scopes.specs.Kinds.{kind_in}
use Rattle.ir_call_rules.specs.Alone.{branches_alone}
use Rattle.ir_call_rules.specs.Sources.{with_edge}
use Rattle.ir_call_rules.proofs.Buckets.{scope-more, sources-more}
use Rattle.ir_call_rules.proofs.sources.sources_of.Goals as goal

pub each-preserved : goal.each-preserved
each-preserved c =
    let kind = kind_in c.args.kinds.now.names in
    let s = branches_alone c.args.locals.now [] in
    let items = c.args.items.now in
    let i = c.each.item-index in
    let x = c.item-item.result in
    let after = c.in_ok-add_item.ensures ∙ ap (λ scope. with_item kind scope x) c.each.invariant.seen in
    record {
      seen = after ∙ scope-more kind s items i x c.each-test.true c.item-item.is;
      gathered =
          λ b. c.in_ok-add_edges.ensures b
          ∙ ap (λ ns. fold (with_edge s b) ns (edges_at c.add_item.new.scope x)) (c.each.invariant.gathered b)
          ∙ sources-more kind s items i x c.each-test.true c.item-item.is b c.add_item.new.scope after;
    }
