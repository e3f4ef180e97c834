use Rattle.std.proofs.Common.{refl, arith}
use Rattle.shared_machine.proofs.Lives.{one_less}
use Rattle.shared_machine.proofs.States.{out_kept, stands_kept, untouched}
use Rattle.shared_machine.proofs.turns.SharedOverMachine.release.Goals as goal

pub returns-clause-out_numbers : goal.returns-clause-out_numbers
returns-clause-out_numbers g c = one_less c.args.self.now.store c.release.new.self c.args.s.memory c.requires.0 c.release.ensures.gone c.release.ensures.others

pub returns-clause-keeps : goal.returns-clause-keeps
returns-clause-keeps g c =
    let s = c.args.self.now.store in
    let t = c.release.new.self in
    let peak = c.release.ensures.peak in
    record {
      meanings = refl;
      stays = (record { run = refl; signs = refl; answers = refl }, record { least = omega (arith, peak); most = omega (arith, peak) });
      out = λ u h ne. out_kept c.args.self.now.subject.code s t u.memory u.bare (c.release.ensures.others u.memory (untouched c.args.s.memory u.memory ne)) h;
      stands = λ u h ne. stands_kept s t u.memory u.bare (c.release.ensures.others u.memory (untouched c.args.s.memory u.memory ne));
    }
