use Rattle.exec_machine.proofs.Numbers.{distinct_push, below_push}
use Rattle.exec_tests.proofs.tape.Tape.number_out.Goals as goal

pub invariant_of-self-2 : goal.invariant_of-self-2
invariant_of-self-2 c = record {
  short = c.args.self.now.short;
  below = rw c.in_ok-push.ensures.items (below_push _ _ c.args.self.now.below);
  distinct = rw c.in_ok-push.ensures.items (distinct_push _ _ c.args.self.now.below c.args.self.now.distinct);
}
