use Rattle.std.proofs.Common.{◌≡◌, ◌≤◌, ◌%◌, take}
use Rattle.std.specs.List.{sum_by}
use Rattle.exec_machine.proofs.toy.odd_count.Given as goal

abbrev pub invariant-loop-v : goal.invariant-loop-v
invariant-loop-v l = record { sum : l.count ≡ sum_by (λ v. v % 2) (take l.v-index l.variants); bound : l.count ≤ l.v-index }
