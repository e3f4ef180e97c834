use Rattle.exec_core.proofs.EndingLemmas.{going_stops}
use Rattle.exec_core.proofs.TurnLemmas.{on_err}
use Rattle.exec_core.proofs.shared_run.run_to_end.Goals as goal

pub returns-in_err-classes-clause-stopped : goal.returns-in_err-classes-clause-stopped
returns-in_err-classes-clause-stopped g c =
    on_err c.from_residual-in_err-classes.result (going_stops g.met.M.Machine.lawful c.args.table.now _ _ c.in_ok-run_all.ensures.going)
