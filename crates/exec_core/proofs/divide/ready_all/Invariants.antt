use Rattle.std.proofs.Common.{◌≡◌, ◌+◌, ◌≤◌, vec_len, vec_capacity}
use Rattle.exec_core.specs.Children.{AreReadying, weights_of}
use Rattle.exec_core.proofs.divide.ready_all.Given as goal

abbrev pub invariant-loop-child : goal.invariant-loop-child
invariant-loop-child g l = let V = g.M.Machine.view in record {
  children : AreReadying V l.fn.machine l.machine l.fn.children.items l.children.items l.readied.items;
  room : vec_len l.children + vec_len l.readied ≤ vec_capacity l.readied;
  readied : (V.counts l.machine).readied + weights_of (V.meanings l.fn.machine) l.children.items ≡ (V.counts l.fn.machine).readied + weights_of
      (V.meanings l.fn.machine) l.fn.children.items;
  at_least : (V.counts l.fn.machine).readied ≤ (V.counts l.machine).readied;
  tried : (V.counts l.machine).tried ≡ (V.counts l.fn.machine).tried;
  applied : (V.counts l.machine).applied ≡ (V.counts l.fn.machine).applied;
  weighed : (V.counts l.machine).weighed ≡ (V.counts l.fn.machine).weighed;
  asks : (p : _) → (V.counts l.machine).asks p ≡ (V.counts l.fn.machine).asks p;
}

abbrev pub decreases-loop-child : goal.decreases-loop-child
decreases-loop-child g l = vec_len l.children
