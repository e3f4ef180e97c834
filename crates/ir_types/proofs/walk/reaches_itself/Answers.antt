use Rattle.std.proofs.Common.{Bool, List, ap, ◌∙◌, arith}
use Rattle.ir_types.specs.Graph.{next_of, held}
use Rattle.ir_types.proofs.Grounds.{left-less}
use Rattle.ir_types.proofs.Walking.{walk-first, walk-last}
use Rattle.ir_types.proofs.walk.reaches_itself.Goals as goal

pub each-init : goal.each-init
each-init c =
    let r = walk-first c.args.edges.now c.args.grounded.now c.args.d c.requires.grounded
    (record { marks = c.in_ok-copy.field-0; queue = c.new.result }) c.visit.new.walk c.named_by.result.now c.in_ok-copy.ensures c.new.ensures
    c.named_by.ensures c.in_ok-visit.ensures in
    record { walk = r.0; first = r.1 }

pub each-preserved : goal.each-preserved
each-preserved c = record {
  walk = c.in_ok-step.ensures.walk c.args.grounded.now c.args.d c.each.invariant.walk;
  first = left-less c.each.walk.marks c.step.new.walk.marks c.in_ok-step.ensures.grows (next_of c.args.edges.now c.args.d) c.each.invariant.first;
}

pub returns : goal.returns
returns c =
    c.held.ensures ∙ ap (λ (l : List Bool). held l c.args.d) c.as_slice.ensures
    ∙ walk-last c.args.edges.now c.args.grounded.now c.args.d c.requires.grounded c.each.walk c.each.at c.requires.other
    (let end = c.each-test.false in omega arith) c.each.invariant.walk c.each.invariant.first
