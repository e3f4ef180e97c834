use Rattle.std.proofs.Common.{◌≡◌, ◌++◌}
use Rattle.workload.specs.Workload.{mask_lines}
use Rattle.workload.proofs.module.put_masks.Given as goal

abbrev pub invariant-masks : goal.invariant-masks
invariant-masks l = l.out ≡ l.initial.out ++ mask_lines l.j
