use Rattle.mutant_maker.specs.Makers.{same_operation}
use Rattle.mutant_maker.specs.Changes.{with_operation}
use Rattle.mutant_maker.proofs.Steps.{others_turn}
use Rattle.mutant_maker.proofs.makers.put_operations.Goals as goal

pub each-preserved : goal.each-preserved
each-preserved c =
    others_turn (same_operation c.args.b) (with_operation c.args.op.now) c.args.all.now c.each.k-index _
    c.same_operation-same.result c.args.walk.now c.each.walk c.put_unless.new.self c.each-test.true c.same_operation-same.ensures c.each.invariant c.in_ok-put_unless.ensures
