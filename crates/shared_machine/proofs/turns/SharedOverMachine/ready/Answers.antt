use Rattle.std.proofs.Common.{ℕ, sym, ap, refl, ◌∙◌, subst, arith}
use Rattle.ports.specs.Asks.{answers_in}
use Rattle.lane_eval.specs.Running.{IsRunning}
use Rattle.shared_pages.specs.Store.{IsIn, the_memory}
use Rattle.shared_machine.specs.Shown.{standing}
use Rattle.shared_machine.proofs.Lives.{one_stays}
use Rattle.shared_machine.proofs.States.{known_bytes, same_standing, out_kept, stands_kept, untouched, owns_kept}
use Rattle.shared_machine.proofs.turns.SharedOverMachine.ready.Goals as goal

pub ready_state-requires-clause-range : goal.ready_state-requires-clause-range
ready_state-requires-clause-range g c =
    let m = c.args.self.now in
    let s = standing m.store c.args.s.now.bare c.args.s.now.memory in
    known_bytes m.subject.code m.subject.table (answers_in (g.P.Ports.outside m.ports).answers) c.program.ensures.sound c.program.ensures.fits s c.requires.out.1 c.args.c.now
    c.requires.known.variant c.requires.known.is

pub returns-clause-state : goal.returns-clause-state
returns-clause-state g c =
    same_standing c.args.self.now.store c.ready_state.new.store c.args.s.now.bare c.ready_state.new.s.bare c.args.s.now.memory c.ready_state.new.s.memory c.ready_state.ensures.bare
    (ap (λ (k : ℕ). (the_memory c.ready_state.new.store k).bytes) c.ready_state.ensures.memory ∙ c.ready_state.ensures.reserved.bytes)

pub returns-clause-out : goal.returns-clause-out
returns-clause-out g c =
    let same = same_standing c.args.self.now.store c.ready_state.new.store c.args.s.now.bare c.ready_state.new.s.bare c.args.s.now.memory c.ready_state.new.s.memory c.ready_state.ensures.bare
    (ap (λ (k : ℕ). (the_memory c.ready_state.new.store k).bytes) c.ready_state.ensures.memory ∙ c.ready_state.ensures.reserved.bytes) in
    (subst (λ (k : ℕ). IsIn c.ready_state.new.store k) (sym c.ready_state.ensures.memory) c.ready_state.ensures.reserved.alive, subst (IsRunning c.args.self.now.subject.code) (sym same) c.requires.out.1, c.requires.out.2)

pub returns-clause-out_numbers : goal.returns-clause-out_numbers
returns-clause-out_numbers g c =
    one_stays c.args.self.now.store c.ready_state.new.store c.args.s.now.memory c.requires.out.0 c.ready_state.ensures.reserved.alive c.ready_state.ensures.reserved.others

pub returns-clause-keeps : goal.returns-clause-keeps
returns-clause-keeps g c =
    let s = c.args.self.now.store in
    let t = c.ready_state.new.store in
    let others = c.ready_state.ensures.reserved.others in
    let peak = c.ready_state.ensures.reserved.peak in
    let most = c.ready_state.ensures.most in
    let count = c.pages.ensures in
    record {
      meanings = refl;
      stays = (record { run = refl; signs = refl; answers = refl }, record { least = omega (arith, peak); most = omega (arith, most, count) });
      out = λ u h ne. out_kept c.args.self.now.subject.code s t u.memory u.bare (others u.memory (untouched c.args.s.now.memory u.memory ne)) h;
      stands = λ u h ne. stands_kept s t u.memory u.bare (others u.memory (untouched c.args.s.now.memory u.memory ne));
    }

pub returns-clause-keeps_ready : goal.returns-clause-keeps_ready
returns-clause-keeps_ready g c = record {
  ready = λ u d h ne r. (r.0, owns_kept c.args.self.now.store c.ready_state.new.store c.ready_state.ensures.reserved.grown u.memory d.bytes r.1);
}
