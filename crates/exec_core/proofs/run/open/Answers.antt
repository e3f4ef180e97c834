use Rattle.std.proofs.Common.{◌≡◌, ℕ, List, [], ◌∷◌, ◌++◌, true, false, ap, ◌∙◌, subst}
use Rattle.exec_core.specs.Executions.{goes_on}
use Rattle.exec_core.specs.declared.execution.Execution.{Execution as Concrete}
use Rattle.exec_core.proofs.GoingLemmas.{opened}
use Rattle.exec_core.proofs.run.open.Goals as goal

pub returns-in-Ok-clause-going : goal.returns-in-Ok-clause-going
returns-in-Ok-clause-going g c =
    let V = g.M.Machine.view in let m = c.args.machine.now in let e = c.in-Ok.ensures in
    let l : List ℕ → Concrete g.row.M-State.Denot = λ ms. record { step = 0; members = ms; state = c.args.start } in
    let lives = c.settle.new.lives.items in let ended = c.settle.new.ended.items in
    opened V g.met.M.Machine.lawful m c.args.table.now c.args.start c.args.budget _ c.args.meter.now c.requires.out e.some
    (e.splits ∙ c.requires.splits) (e.tries ∙ c.requires.tries) (e.alone ∙ c.requires.alone)
    (subst (λ ms. goes_on V m c.args.budget (l ms) ≡ true → (lives ≡ l ms ∷ []) × (ended ≡ [])) e.members (λ y. let h = c.settle.ensures.live y in (
      h.0 ∙ ap (λ xs. xs ++ l c.in-Ok.members ∷ []) (e.kept.lives ∙ c.requires.lives),
      h.1 ∙ e.kept.ended ∙ c.requires.ended,
    ))) (subst (λ ms. goes_on V m c.args.budget (l ms) ≡ false → (lives ≡ []) × (ended ≡ l ms ∷ [])) e.members (λ n. let h = c.settle.ensures.over n in (
      h.0 ∙ e.kept.lives ∙ c.requires.lives,
      h.1 ∙ ap (λ xs. xs ++ l c.in-Ok.members ∷ []) (e.kept.ended ∙ c.requires.ended),
    )))
