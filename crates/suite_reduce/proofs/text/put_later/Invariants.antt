use Rattle.std.proofs.Common.{◌≡◌, ◌++◌, ◌∷◌, flat_map, take}
use Rattle.work_report.specs.Report.{name_at}
use Rattle.suite_reduce.proofs.text.put_later.Given as goal

abbrev pub invariant-tests : goal.invariant-tests
invariant-tests l = l.out ≡ l.initial.out ++ flat_map (λ k. 32 ∷ name_at l.suite k) (take l.t-index l.tests)
