use Rattle.std.proofs.lemmas.List.Elements.{Contains-push}
use Rattle.exec_machine.proofs.Numbers.{out_push}
use Rattle.exec_machine.proofs.toy.ToyMachine.fork.Goals as goal

pub returns-clause-out_numbers : goal.returns-clause-out_numbers
returns-clause-out_numbers c = rw (c.in_ok-number.ensures.out) (out_push c.args.self.now.out.items c.in_ok-number.number)

pub returns-clause-out : goal.returns-clause-out
returns-clause-out c = (
  rw c.in_ok-number.ensures.out (Contains-push c.args.self.now.out.items c.in_ok-number.number),
  rw c.in_ok-number.ensures.gains c.requires.1,
)
