use Rattle.std.proofs.Common.{◌≡◌, ◌≤◌, length}
use Rattle.std.specs.List.{All}
use Rattle.exec_tests.proofs.tests.late_gains.Given as goal

abbrev pub invariant-loop-place : goal.invariant-loop-place
invariant-loop-place l = record {
  len : length l.gains.items ≡ l.place;
  small : All (λ gain. gain ≤ 1000000) l.gains.items;
}
