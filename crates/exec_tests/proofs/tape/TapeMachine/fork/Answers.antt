use Rattle.std.proofs.Common.{◌≡◌, rules, ap, arith, length}
use Rattle.std.proofs.lemmas.List.Elements.{Contains-push}
use Rattle.exec_machine.proofs.Numbers.{out_push}
use Rattle.exec_tests.proofs.tape.TapeMachine.fork.Goals as goal

pub returns-clause-out_numbers : goal.returns-clause-out_numbers
returns-clause-out_numbers c = rw (c.in_ok-number.ensures.out) (out_push c.args.self.now.out.items c.in_ok-number.number)

pub returns-clause-out : goal.returns-clause-out
returns-clause-out c =
    let e : c.in_ok-written.written.items ≡ c.args.s.now.written.items = search rules in (
      rw c.in_ok-number.ensures.out (Contains-push c.args.self.now.out.items c.in_ok-number.number),
      omega (arith, ap length e, c.requires.1, c.in_ok-number.ensures.len),
    )
