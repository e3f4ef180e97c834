use Rattle.std.proofs.Common.{◌+◌, Bool, List, sym, ap, ◌∙◌, arith}
use Rattle.std.specs.List.{list_all}
use Rattle.ir_types.specs.Graph.{held}
use Rattle.ir_types.proofs.Grounds.{all-held}
use Rattle.ir_types.proofs.Chains.{all-done, left-next}
use Rattle.ir_types.proofs.Levels.{none-exact, level-all}
use Rattle.ir_types.proofs.level.named_of.Goals as goal

pub passes-init : goal.passes-init
passes-init c = record {
  kept = λ n t h. h;
  exact = none-exact c.args.graph.now c.requires.graph c.in_ok-from_slice.field-0 c.in_ok-filled.field-0 c.args.table.now c.in_ok-from_slice.ensures
      c.in_ok-filled.ensures c.requires.zero;
  left = λ d h. ap (λ (l : List Bool). held l d) (sym c.in_ok-from_slice.ensures) ∙ h;
}

pub returns-then-all_set-clause-level : goal.returns-then-all_set-clause-level
returns-then-all_set-clause-level c =
    level-all c.args.graph.now c.requires.graph c.number_all.new.naming c.number_all.new.table c.in_ok-number_all.ensures.exact
    (all-held c.number_all.new.naming.done (ap (list_all (λ b. b)) (sym c.as_slice.ensures) ∙ sym c.all_set.ensures ∙ c.if-all_set.true))

pub passes-preserved : goal.passes-preserved
passes-preserved c =
    let more = c.in_ok-number_all.ensures in
    record {
      kept = λ n t h. more.kept n t (c.passes.invariant.kept n t h);
      exact = more.exact;
      left =
          left-next c.args.graph.now.edges.now c.args.graph.now.recursive.now c.passes.naming.done c.number_all.new.naming.done c.passes._pass (c.passes._pass + 1)
          (omega arith) c.passes.invariant.left more.exact.cyclic more.tried;
    }

pub returns-clause-level : goal.returns-clause-level
returns-clause-level c =
    let g = c.args.graph.now in
    let end = c.passes-test.false in
    let low = c.passes.auto._pass-end in
    level-all g c.requires.graph c.passes.naming c.passes.table c.passes.invariant.exact
    (all-done g.edges.now g.recursive.now c.requires.graph.long c.requires.graph.exact c.passes.naming.done c.passes._pass (omega arith) (omega arith)
    c.passes.invariant.left)
