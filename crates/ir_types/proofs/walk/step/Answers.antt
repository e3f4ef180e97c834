use Rattle.std.proofs.Common.{ℕ, List, subst, sym}
use Rattle.ir_types.specs.Walks.{Visits}
use Rattle.ir_types.proofs.Walking.{step-walk}
use Rattle.ir_types.proofs.walk.step.Goals as goal

pub returns-in_ok-visit-clause-walk : goal.returns-in_ok-visit-clause-walk
returns-in_ok-visit-clause-walk c = λ flags d w.
    step-walk c.args.edges.now flags c.args.walk.now c.visit.new.walk d c.args.at c.in-Some.number.now (sym c.in-Some.ensures) w
    (subst (λ (l : List ℕ). Visits c.args.walk.now l l c.visit.new.walk) c.named_by.ensures c.in_ok-visit.ensures)
