use Rattle.std.proofs.Common.{◌≡◌, refl, sym, ap, subst, ◌∙◌, arith}
use Rattle.std.specs.Prelude.{is_some, ℕ}
use Rattle.lane_eval.specs.Running.{IsRunning}
use Rattle.shared_pages.specs.Store.{IsIn, memory, or_empty}
use Rattle.shared_machine.proofs.Lives.{one_more}
use Rattle.shared_machine.proofs.States.{same_standing, out_kept, stands_kept, other_kept}
use Rattle.shared_machine.proofs.turns.SharedOverMachine.fork.Goals as goal

pub returns-clause-out_numbers : goal.returns-clause-out_numbers
returns-clause-out_numbers g c =
    one_more c.args.self.now.store c.fork.new.self c.in_ok-memory.memory c.in_ok-memory.ensures.fresh
    (ap is_some c.in_ok-memory.ensures.forked ∙ c.requires.0) c.in_ok-memory.ensures.others

pub returns-clause-out : goal.returns-clause-out
returns-clause-out g c = (
  ap is_some c.in_ok-memory.ensures.forked ∙ c.requires.0,
  subst (IsRunning c.args.self.now.subject.code)
      (sym (same_standing c.args.self.now.store c.fork.new.self c.args.s.now.bare c.in_ok-bare.bare c.args.s.now.memory c.in_ok-memory.memory c.in_ok-bare.ensures
      (ap (λ o. (or_empty o).bytes) c.in_ok-memory.ensures.forked))) c.requires.1,
  c.requires.2,
)

pub returns-clause-state : goal.returns-clause-state
returns-clause-state g c =
    same_standing c.args.self.now.store c.fork.new.self c.args.s.now.bare c.in_ok-bare.bare c.args.s.now.memory c.in_ok-memory.memory c.in_ok-bare.ensures
    (ap (λ o. (or_empty o).bytes) c.in_ok-memory.ensures.forked)

pub returns-clause-keeps : goal.returns-clause-keeps
returns-clause-keeps g c =
    let s = c.args.self.now.store in
    let t = c.fork.new.self in
    let peak = c.in_ok-memory.ensures.peak in
    let kept : (k : ℕ) → IsIn s k → memory t k ≡ memory s k = λ k known. other_kept s t c.in_ok-memory.memory k c.in_ok-memory.ensures.fresh c.in_ok-memory.ensures.others known in
    record {
      meanings = refl;
      stays = (record { run = refl; signs = refl; answers = refl }, record { least = omega (arith, peak); most = omega (arith, peak) });
      out = λ u h ne. out_kept c.args.self.now.subject.code s t u.memory u.bare (kept u.memory h.0) h;
      stands = λ u h ne. stands_kept s t u.memory u.bare (kept u.memory h.0);
    }
