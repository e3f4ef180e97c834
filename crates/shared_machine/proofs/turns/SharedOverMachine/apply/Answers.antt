use Rattle.std.proofs.Common.{◌≡◌, ℕ, ◌<◌, List, sym, refl, ◌∙◌, subst, arith, true}
use Rattle.std.specs.List.{All}
use Rattle.am_base.specs.declared.limits.TheConstants.{MEMORY_BYTES}
use Rattle.code_form.specs.declared.code.Code.{Code}
use Rattle.ports.specs.Asks.{answers_in}
use Rattle.lane_eval.specs.Plain.{CanApply}
use Rattle.shared_pages.specs.Store.{the_memory, owns}
use Rattle.shared_machine.specs.Shown.{standing}
use Rattle.shared_machine.proofs.Lives.{one_stays}
use Rattle.shared_machine.proofs.States.{applies_with, known_applies, known_bytes, known_runs, stands_after, out_kept, stands_kept, untouched, owns_kept}
use Rattle.shared_machine.proofs.turns.SharedOverMachine.apply.Goals as goal

pub write_bytes-requires-clause-range : goal.write_bytes-requires-clause-range
write_bytes-requires-clause-range g c =
    let m = c.args.self.now in
    let s = standing m.store c.args.s.now.bare c.args.s.now.memory in
    let within = known_bytes m.subject.code m.subject.table (answers_in (g.P.Ports.outside m.ports).answers) c.program-program.ensures.sound c.program-program.ensures.fits s c.requires.out.1 c.args.c
    c.requires.known.variant c.requires.known.is in
    subst (λ (bs : List (ℕ × ℕ)). All (λ b. b.0 < MEMORY_BYTES) bs) (sym c.as_slice.ensures.pairs) within

pub write_bytes-requires-clause-own : goal.write_bytes-requires-clause-own
write_bytes-requires-clause-own g c =
    subst (λ (bs : List (ℕ × ℕ)). All (λ b. owns c.args.self.now.store c.args.s.now.memory b.0 ≡ true) bs) (sym c.as_slice.ensures.pairs) c.requires.ready.1

pub apply_bare-requires-clause-can : goal.apply_bare-requires-clause-can
apply_bare-requires-clause-can g c =
    let m = c.args.self.now in
    let s = standing m.store c.args.s.now.bare c.args.s.now.memory in
    let applies = known_applies m.subject.code m.subject.table (answers_in (g.P.Ports.outside m.ports).answers) c.program-program.ensures.sound c.program-program.ensures.fits s c.requires.out.1 c.args.c
    c.requires.known.variant c.requires.known.is in
    subst (λ (d : Code). CanApply d c.args.s.now.bare.state c.args.c c.args.c.control) (sym c.program-program.ensures.code)
    (applies_with m.subject.code c.args.s.now.bare.state (the_memory m.store c.args.s.now.memory).bytes c.args.c c.args.c.control applies)

pub returns-clause-after : goal.returns-clause-after
returns-clause-after g c =
    let m = c.args.self.now in
    stands_after m.subject.code _ m.store c.write_bytes.new.store c.args.s.now.memory c.args.s.now.bare c.apply_bare.new.s c.args.c _ c.program-program.ensures.code c.apply_bare.ensures
    c.as_slice.ensures.pairs c.write_bytes.ensures

pub returns-clause-out : goal.returns-clause-out
returns-clause-out g c =
    let m = c.args.self.now in
    let s = standing m.store c.args.s.now.bare c.args.s.now.memory in
    let leads = stands_after m.subject.code _ m.store c.write_bytes.new.store c.args.s.now.memory c.args.s.now.bare c.apply_bare.new.s c.args.c _ c.program-program.ensures.code c.apply_bare.ensures
    c.as_slice.ensures.pairs c.write_bytes.ensures in
    let runs = known_runs m.subject.code m.subject.table (answers_in (g.P.Ports.outside m.ports).answers) c.program-program.ensures.sound c.program-program.ensures.fits s c.requires.out.1 c.args.c
    c.requires.known.variant c.requires.known.is _ leads in
    (c.write_bytes.ensures.alive, runs, c.requires.out.2)

pub returns-clause-out_numbers : goal.returns-clause-out_numbers
returns-clause-out_numbers g c =
    one_stays c.args.self.now.store c.write_bytes.new.store c.args.s.now.memory c.requires.out.0 c.write_bytes.ensures.alive c.write_bytes.ensures.others

pub returns-clause-keeps : goal.returns-clause-keeps
returns-clause-keeps g c =
    let s = c.args.self.now.store in
    let t = c.write_bytes.new.store in
    let peak = c.write_bytes.ensures.peak in
    record {
      meanings = refl;
      stays = (record { run = refl; signs = refl; answers = refl }, record { least = omega (arith, peak); most = omega (arith, peak) });
      out = λ u h ne. out_kept c.args.self.now.subject.code s t u.memory u.bare (c.write_bytes.ensures.others u.memory (untouched c.args.s.now.memory u.memory ne)) h;
      stands = λ u h ne. stands_kept s t u.memory u.bare (c.write_bytes.ensures.others u.memory (untouched c.args.s.now.memory u.memory ne));
    }

pub returns-clause-keeps_ready : goal.returns-clause-keeps_ready
returns-clause-keeps_ready g c = record {
  ready = λ u d h ne r. (r.0, owns_kept c.args.self.now.store c.write_bytes.new.store (λ k i e. c.write_bytes.ensures.own k i ∙ e) u.memory d.bytes r.1);
}
