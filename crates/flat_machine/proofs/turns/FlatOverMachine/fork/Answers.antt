use Rattle.std.proofs.Common.{◌∷◌, refl, sym, subst}
use Rattle.std.specs.List.Sorted.{IsPermutation}
use Rattle.lane_eval.specs.Running.{IsRunning}
use Rattle.exec_machine.proofs.Numbers.{contains_more}
use Rattle.flat_machine.specs.Taken.{taken}
use Rattle.flat_machine.proofs.Taken.{contains_first}
use Rattle.flat_machine.proofs.turns.FlatOverMachine.fork.Goals as goal

pub returns-clause-out_numbers : goal.returns-clause-out_numbers
returns-clause-out_numbers g c = c.in_ok-number.ensures.out

pub returns-clause-out : goal.returns-clause-out
returns-clause-out g c = (
  contains_first c.in_ok-number.number (taken c.args.self.now.numbers.marks.items) (taken c.give.new.self.marks.items) c.in_ok-number.ensures.out,
  subst (IsRunning c.args.self.now.subject.code) (sym c.in_ok-flat.ensures) c.requires.1,
  c.requires.2,
)

pub returns-clause-keeps : goal.returns-clause-keeps
returns-clause-keeps g c =
    let more = c.in_ok-number.ensures.out in
    record {
      meanings = refl;
      stays = record { run = refl; signs = refl; answers = refl };
      out = λ t h ne. (contains_more (taken c.args.self.now.numbers.marks.items) (taken c.give.new.self.marks.items) c.in_ok-number.number t.number more h.0, h.1, h.2);
      stands = λ t h ne. refl;
    }
