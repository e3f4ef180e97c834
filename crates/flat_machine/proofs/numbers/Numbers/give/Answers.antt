use Rattle.std.proofs.Common.{arith}
use Rattle.flat_machine.proofs.Taken.{push_taken}
use Rattle.flat_machine.proofs.numbers.Numbers.give.Goals as goal

pub returns-clause-out : goal.returns-clause-out
returns-clause-out c =
    rw c.in_ok-push.ensures.items
    (push_taken c.args.self.now.marks.items c.len-number.result (omega (arith, c.len-number.ensures, c.args.self.now.marks.ok.0)))
