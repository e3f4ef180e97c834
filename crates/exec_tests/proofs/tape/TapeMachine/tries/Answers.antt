use Rattle.std.proofs.Common.{arith}
use Rattle.exec_machine.proofs.Numbers.{sum_of_zeros}
use Rattle.exec_tests.proofs.tape.TapeMachine.tries.Goals as goal

pub returns-clause-counts : goal.returns-clause-counts
returns-clause-counts c = record {
  tried = omega arith;
  applied = omega arith;
  weighed = omega arith;
  readied = omega arith;
  asks = λ p. (let z = sum_of_zeros c.args.variants.now in omega arith);
}
