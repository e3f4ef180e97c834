use Rattle.std.proofs.Common.{◌≡◌, ◌++◌, ◌∷◌, flat_map, take}
use Rattle.work_report.proofs.score.put_names.Given as goal

abbrev pub invariant-tests : goal.invariant-tests
invariant-tests l = l.out ≡ l.initial.out ++ flat_map (λ test. 44 ∷ test.name) (take l.test-index l.tests)
