-- One more of the names of a line.
use Rattle.std.proofs.Common.{◌≡◌, ◌<◌, ℕ, ◌+◌, ◌++◌, ◌∷◌, List, flat_map, take, length, get_or, arith}
use Rattle.std.proofs.lemmas.List.{take_more}
use Rattle.std.proofs.lemmas.Grind.{flat_map-append, common_steps}
use Rattle.test_suite.specs.declared.suite.Suite.{Suite}
use Rattle.work_report.specs.Report.{name_at}

pub names_more : (suite : Suite) (ts : List ℕ) (i : ℕ) → i < length ts → flat_map (λ k. 32 ∷ name_at suite k) (take (i + 1) ts)
    ≡ flat_map (λ k. 32 ∷ name_at suite k) (take i ts) ++ 32 ∷ name_at suite (get_or ts i 0)
names_more suite ts i h = rw (take_more ts i 0 h, flat_map-append) (grind (arith, common_steps))
