use Rattle.exec_machine.proofs.Numbers.{out_push}
use Rattle.exec_tests.proofs.tape.Tape.start.Goals as goal

pub returns-clause-out_numbers : goal.returns-clause-out_numbers
returns-clause-out_numbers c = rw (c.in_ok-number.ensures.out) (out_push c.args.self.now.out.items c.in_ok-number.number)
