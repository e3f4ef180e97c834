use Rattle.std.proofs.Common.{refl, lit<, sym}
use Rattle.exec_machine.proofs.Numbers.{contains_rest}
use Rattle.flat_machine.specs.Taken.{taken}
use Rattle.flat_machine.proofs.turns.FlatOverMachine.release.Goals as goal

pub returns-clause-keeps : goal.returns-clause-keeps
returns-clause-keeps g c = record {
  meanings = refl;
  stays = record { run = refl; signs = refl; answers = refl };
  out = λ t h ne. (
    contains_rest (taken c.args.self.now.numbers.marks.items) (taken c.take_back.new.self.marks.items) c.args.s.number t.number c.take_back.ensures h.0 (λ e. ne (0, lit< tt, sym e)),
    h.1,
    h.2,
  );
  stands = λ t h ne. refl;
}
