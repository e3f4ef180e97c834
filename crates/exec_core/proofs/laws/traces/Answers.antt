use Rattle.std.proofs.Common.{sym, subst}
use Rattle.traces.specs.Trace.{AreChangesFrom}
use Rattle.traces.proofs.Trace.{changes_from-AreChangesFrom, AreChangesFrom-unique}
use Rattle.exec_core.proofs.laws.traces.Goals as goal

pub returns : goal.returns
returns g c = λ trial m changes. (
  AreChangesFrom-unique trial m trial.budget trial.start changes,
  λ e. subst (AreChangesFrom trial m trial.budget trial.start) (sym e) (changes_from-AreChangesFrom trial m trial.budget trial.start),
)
