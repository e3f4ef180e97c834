use Rattle.std.proofs.Common.{append_assoc, ◌∷◌, []}
use Rattle.kill_matrix.specs.Score.{letter_of}
use Rattle.kill_matrix.specs.Verdict.{byte_of}
use Rattle.work_report.proofs.MoreLines.{each_more}
use Rattle.work_report.proofs.score.put_letters.Goals as goal

pub tests-preserved : goal.tests-preserved
tests-preserved c =
    rw (
      c.in_ok-push-2.ensures.ok,
      c.in_ok-push.ensures.ok,
      c.tests.invariant,
      each_more (λ t. 44 ∷ byte_of (letter_of c.args.matrix.now c.args.m t) ∷ []) c.tests.t,
      c.byte.ensures,
      c.letter.ensures,
    )
    (simp append_assoc)
