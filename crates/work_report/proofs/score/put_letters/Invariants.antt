use Rattle.std.proofs.Common.{◌≡◌, ◌++◌, ◌∷◌, []}
use Rattle.kill_matrix.specs.Score.{letter_of}
use Rattle.kill_matrix.specs.Verdict.{byte_of}
use Rattle.work_report.specs.Report.{each_below}
use Rattle.work_report.proofs.score.put_letters.Given as goal

abbrev pub invariant-tests : goal.invariant-tests
invariant-tests l = l.out ≡ l.initial.out ++ each_below (λ t. 44 ∷ byte_of (letter_of l.matrix l.m t) ∷ []) l.t
