use Rattle.std.proofs.Common.{get_or}
use Rattle.traces.specs.Configuration.{run, opening}
use Rattle.traces.proofs.Turns.{run_keeps, opening_is}
use Rattle.traces.proofs.Ends.{ended_count}
use Rattle.traces.proofs.WholeTraces.{ended_is}
use Rattle.exec_core.proofs.laws.ends.Goals as goal

pub returns-clause-classes : goal.returns-clause-classes
returns-clause-classes g c = λ trial turns same some over.
    let is = run_keeps trial same turns _ (opening_is trial same some) in
    λ k d l. ended_is trial same (get_or (run trial (opening trial) turns) k d) (is.each k d l) (over k d l)

pub returns-clause-count : goal.returns-clause-count
returns-clause-count g c = λ trial turns same some over.
    ended_count trial same (run trial (opening trial) turns) (run_keeps trial same turns _ (opening_is trial same some)) over
