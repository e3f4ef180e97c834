use Rattle.ir_tree.specs.declared.operand.Opd.TheVariants as opd
use Rattle.mutant_maker.specs.Makers.{with_value}
use Rattle.mutant_maker.proofs.Steps.{map_turn}
use Rattle.mutant_maker.proofs.constants.put_each.Goals as goal

pub each-preserved : goal.each-preserved
each-preserved c =
    map_turn (λ z. with_value c.args.op.now c.args.k (opd.Number z)) c.args.numbers.now c.each.z-index _ c.args.walk.now c.each.walk c.put_number.new.walk
    c.each-test.true c.each.invariant c.in_ok-put_number.ensures
