use Rattle.std.proofs.Common.{arith}
use Rattle.ir_types.proofs.Grounds.{flags-exact}
use Rattle.ir_types.proofs.cycles.recursive_of.Goals as goal

pub returns-clause-exact : goal.returns-clause-exact
returns-clause-exact c =
    let end = c.each.auto in
    flags-exact c.args.edges.now c.each.flags (omega (arith, c.each.invariant.long)) (λ d h. c.each.invariant.exact d (omega arith))
