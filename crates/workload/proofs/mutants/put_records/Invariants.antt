use Rattle.std.proofs.Common.{◌≡◌, ◌++◌}
use Rattle.workload.specs.Workload.{records}
use Rattle.workload.proofs.mutants.put_records.Given as goal

abbrev pub invariant-masks : goal.invariant-masks
invariant-masks l = l.out ≡ l.initial.out ++ records l.n l.k
