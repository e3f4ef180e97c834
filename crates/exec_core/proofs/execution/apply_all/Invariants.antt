use Rattle.std.proofs.Common.{◌≡◌, ◌+◌, ◌≤◌, ◌++◌, vec_len, vec_capacity, List}
use Rattle.exec_core.specs.Children.{weights_of}
use Rattle.exec_core.specs.Executions.{AreApplying}
use Rattle.exec_core.specs.declared.execution.Execution.{Execution as Concrete}
use Rattle.exec_core.proofs.execution.apply_all.Given as goal

abbrev pub invariant-loop-child : goal.invariant-loop-child
invariant-loop-child g l = let V = g.M.Machine.view in record {
  made : List (Concrete g.row.M-State.Denot);
  added : l.lives.items ≡ l.fn.lives.items ++ made;
  children : AreApplying V l.fn.machine l.machine l.step l.fn.children.items l.children.items made;
  room : vec_len l.children + vec_len l.lives ≤ vec_capacity l.lives;
  applied : (V.counts l.machine).applied + vec_len l.children ≡ (V.counts l.fn.machine).applied + vec_len l.fn.children;
  weighed : (V.counts l.machine).weighed + weights_of (V.meanings l.fn.machine) l.children.items ≡ (V.counts l.fn.machine).weighed + weights_of
      (V.meanings l.fn.machine) l.fn.children.items;
  meter : l.meter + vec_len l.children ≡ l.fn.meter + vec_len l.fn.children;
  tried : (V.counts l.machine).tried ≡ (V.counts l.fn.machine).tried;
  readied : (V.counts l.machine).readied ≡ (V.counts l.fn.machine).readied;
  asks : (p : _) → (V.counts l.machine).asks p ≡ (V.counts l.fn.machine).asks p;
}

abbrev pub decreases-loop-child : goal.decreases-loop-child
decreases-loop-child g l = vec_len l.children
