use Rattle.std.proofs.Common.{◌-◌}
use Rattle.traces.specs.Work.{total_cost}
use Rattle.traces.specs.Cost.{cost_so_far}
use Rattle.exec_core.specs.Analysed.{IsGoing}
use Rattle.exec_core.specs.Engines.{IsIdle}
use Rattle.code_form.specs.Trial.{trial_of}
use Rattle.exec_core.specs.Picked.{AreOffered}
use Rattle.exec_core.specs.Turned.{executions_of}
use Rattle.exec_core.proofs.run.run_all.Given as goal

abbrev pub invariant-turns : goal.invariant-turns
invariant-turns g l = let V = g.M.Machine.view in record {
  going : IsGoing V (trial_of (V.meanings l.fn.machine) l.table (V.stands l.fn.machine l.fn.start) l.budget) l.fn.machine l.machine
      (V.number l.fn.start) l.engine l.fn.meter l.meter;
  idle : IsIdle l.engine;
  offered : AreOffered l.engine.lives.items l.offers.items;
}

abbrev pub decreases-turns : goal.decreases-turns
decreases-turns g l =
    let V = g.M.Machine.view in let T = trial_of (V.meanings l.fn.machine) l.table (V.stands l.fn.machine l.fn.start) l.budget in
    total_cost T (λ m n. 1) - cost_so_far (λ m n. 1) (executions_of V l.machine l.engine.lives.items l.engine.ended.items)
