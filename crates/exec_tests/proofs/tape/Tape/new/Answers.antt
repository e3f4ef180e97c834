use Rattle.std.proofs.Common.{arith}
use Rattle.exec_machine.proofs.Numbers.{distinct_none}
use Rattle.exec_tests.proofs.tape.Tape.new.Goals as goal

pub invariant_of-result : goal.invariant_of-result
invariant_of-result c = record {
  short = c.requires;
  below = rw c.new.ensures.items (λ k d h. omega arith);
  distinct = rw c.new.ensures.items distinct_none;
}
