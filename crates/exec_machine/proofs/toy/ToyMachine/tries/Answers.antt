use Rattle.std.proofs.Common.{◌==◌, arith}
use Rattle.exec_machine.proofs.Numbers.{odd_tolls}
use Rattle.exec_machine.proofs.toy.ToyMachine.tries.Goals as goal

pub overflow_add-self-2 : goal.overflow_add-self-2
overflow_add-self-2 c = omega (arith, c.requires.room_to_ask 0)

pub returns-clause-counts : goal.returns-clause-counts
returns-clause-counts c = record {
  tried = omega arith;
  applied = omega arith;
  weighed = omega arith;
  readied = omega arith;
  asks = λ p. odd_tolls (p == 0) c.args.self.now.asked c.odd_count.result c.args.variants.now c.odd_count.ensures.value;
}
