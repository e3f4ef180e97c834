use Rattle.std.proofs.Common.{arith}
use Rattle.std.proofs.lemmas.Option.{slice_get_within}
use Rattle.ir_types.proofs.Chains.{inside, tried-more}
use Rattle.ir_types.proofs.Levels.{edges-length}
use Rattle.ir_types.proofs.level.number_all.Goals as goal

pub each-preserved : goal.each-preserved
each-preserved c =
    let before = c.each.invariant in
    let more = c.in_ok-number_one.ensures in
    record {
      kept = λ n t h. more.kept n t (before.kept n t h);
      exact = more.exact;
      grows = λ d h. more.grows d (before.grows d h);
      tried =
          tried-more c.args.graph.now.edges.now c.args.order.now c.args.naming.now.done c.each.naming.done c.number_one.new.naming.done c.each.d-index
          c.each-test.true before.grows more.grows before.tried more.tried;
    }

pub returns-clause-tried : goal.returns-clause-tried
returns-clause-tried c = λ d h.
    let i = inside c.each.naming.done d h in
    let l = c.each.invariant.exact.long in
    let m = edges-length c.args.graph.now c.requires.graph in
    let s = c.requires.whole d (omega arith) in
    let j = slice_get_within c.args.order.now s.0 d s.1 in
    let end = c.each-test.false in
    c.each.invariant.tried s.0 d (omega arith) s.1 h
