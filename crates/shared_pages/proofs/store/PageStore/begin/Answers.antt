use Rattle.std.proofs.Common.{arith, sym, ap, ◌∙◌, inl, inr}
use Rattle.std.proofs.lemmas.Bool.{cases_eq}
use Rattle.shared_pages.specs.Store.{memory}
use Rattle.shared_pages.proofs.Laws.{used_determined}
use Rattle.shared_pages.proofs.Openings.{opened_all, opened_used}
use Rattle.shared_pages.proofs.store.PageStore.begin.Goals as goal

pub returns-in-Ok-clause-begun : goal.returns-in-Ok-clause-begun
returns-in-Ok-clause-begun c =
    opened_all c.begin_empty.new.self c.open.new.store c.in_ok-id.id c.args.bytes.now c.requires c.in-Ok.ensures.ok

pub returns-in-Ok-clause-used : goal.returns-in-Ok-clause-used
returns-in-Ok-clause-used c =
    let opened = opened_used c.begin_empty.new.self c.open.new.store c.in_ok-id.id c.args.bytes.now c.in-Ok.ensures.ok in
    let empty = c.begin_empty.ensures.used in
    omega (arith, opened, empty)

pub set_peak-requires : goal.set_peak-requires
set_peak-requires c =
    let same = used_determined c.release.new.self c.args.self.now (λ k. elim (cases_eq k c.in_ok-id.id) [
      | inl e ↦ ap (memory c.release.new.self) e ∙ c.release.ensures.gone ∙ sym c.in_ok-id.ensures.fresh ∙ sym (ap (memory c.args.self.now) e)
      | inr ne ↦ c.release.ensures.others k ne ∙ c.in-Err.ensures.err.others k ne ∙ c.in_ok-id.ensures.others k ne
    ]) in
    let most = c.peak-peak.ensures.most in
    omega (arith, same, most)

pub returns-in-Err-clause-err_used : goal.returns-in-Err-clause-err_used
returns-in-Err-clause-err_used c = used_determined c.set_peak.new.self c.args.self.now (λ k. c.set_peak.ensures.same k ∙ elim (cases_eq k c.in_ok-id.id) [
  | inl e ↦ ap (memory c.release.new.self) e ∙ c.release.ensures.gone ∙ sym c.in_ok-id.ensures.fresh ∙ sym (ap (memory c.args.self.now) e)
  | inr ne ↦ c.release.ensures.others k ne ∙ c.in-Err.ensures.err.others k ne ∙ c.in_ok-id.ensures.others k ne
])
