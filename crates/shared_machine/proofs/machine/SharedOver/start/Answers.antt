use Rattle.std.proofs.Common.{ℕ, ◌<◌, ◌+◌, List, sym, ap, subst, ◌∙◌}
use Rattle.std.specs.Prelude.{max}
use Rattle.std.specs.List.{All}
use Rattle.lane_eval.proofs.Steps.{start_running}
use Rattle.machine_form.specs.Start.{opening_bytes}
use Rattle.shared_pages.proofs.Refused.{on_err}
use Rattle.shared_pages.specs.Opening.{full_count}
use Rattle.shared_pages.specs.Store.{used_pages}
use Rattle.shared_machine.specs.Shown.{standing}
use Rattle.shared_machine.proofs.Lives.{one_more, same_lives}
use Rattle.shared_machine.proofs.States.{stands_begun, out_kept, stands_kept, other_kept}
use Rattle.shared_machine.proofs.machine.SharedOver.start.Goals as goal

pub returns-clause-out_numbers : goal.returns-clause-out_numbers
returns-clause-out_numbers g c =
    one_more c.args.self.now.store c.begin.new.self c.in_ok-memory.memory c.in_ok-memory.ensures.fresh c.in_ok-memory.ensures.begun.alive c.in_ok-memory.ensures.others

pub returns-clause-state : goal.returns-clause-state
returns-clause-state g c =
    stands_begun c.args.self.now.subject.code _ c.args.case.now c.begin.new.self c.in_ok-memory.memory c.in_ok-bare.bare _ (c.code-code.ensures ∙ c.program.ensures.code)
    c.in_ok-bare.ensures.state c.in_ok-memory.ensures.begun.bytes (c.deref.ensures.value ∙ c.in_ok-bytes.ensures.value)

pub returns-clause-out : goal.returns-clause-out
returns-clause-out g c =
    let m = c.args.self.now in
    let bytes = c.in_ok-memory.ensures.begun.bytes ∙ c.deref.ensures.value in
    let state = stands_begun m.subject.code _ c.args.case.now c.begin.new.self c.in_ok-memory.memory c.in_ok-bare.bare _ (c.code-code.ensures ∙ c.program.ensures.code)
    c.in_ok-bare.ensures.state c.in_ok-memory.ensures.begun.bytes (c.deref.ensures.value ∙ c.in_ok-bytes.ensures.value) in
    let P : List ℕ → Type 0 = λ bs. All (λ b. b < 256) bs in (
      c.in_ok-memory.ensures.begun.alive,
      start_running m.subject.code c.args.case.now (standing c.begin.new.self c.in_ok-bare.bare c.in_ok-memory.memory) c.program.ensures.sound c.requires.case state
          (subst P (sym bytes) c.in_ok-bytes.ensures.range) c.in_ok-bare.ensures.input,
      c.requires.signs,
    )

pub returns-clause-peak : goal.returns-clause-peak
returns-clause-peak g c =
    let same = c.deref.ensures.value ∙ c.in_ok-bytes.ensures.value ∙ ap opening_bytes (c.code-code.ensures ∙ c.program.ensures.code) in
    c.in_ok-memory.ensures.peak ∙ ap (λ (n : ℕ). max c.args.self.now.store.peak n) (c.in_ok-memory.ensures.used ∙ ap (λ (bs : List ℕ). used_pages c.args.self.now.store + full_count bs) same)

pub returns-clause-others_out : goal.returns-clause-others_out
returns-clause-others_out g c = λ u h. out_kept c.args.self.now.subject.code c.args.self.now.store c.begin.new.self u.memory u.bare
    (other_kept c.args.self.now.store c.begin.new.self c.in_ok-memory.memory u.memory c.in_ok-memory.ensures.fresh c.in_ok-memory.ensures.others h.0) h

pub returns-clause-others_stand : goal.returns-clause-others_stand
returns-clause-others_stand g c = λ u h. stands_kept c.args.self.now.store c.begin.new.self u.memory u.bare
    (other_kept c.args.self.now.store c.begin.new.self c.in_ok-memory.memory u.memory c.in_ok-memory.ensures.fresh c.in_ok-memory.ensures.others h.0)

pub returns-in_err-memory-clause-err : goal.returns-in_err-memory-clause-err
returns-in_err-memory-clause-err g c = on_err c.from_residual-in_err-memory.result (same_lives c.args.self.now.store c.begin.new.self c.in_err-memory.ensures.err)
