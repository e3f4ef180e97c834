use Rattle.std.proofs.Common.{◌≡◌, ◌==◌, slice_index, length, ltb-true, bit_and, sym, ap, ◌∙◌}
use Rattle.suite_reduce.proofs.Words.{apart_in}
use Rattle.suite_reduce.proofs.planes.is_part_at.Goals as goal

pub returns-in-Some : goal.returns-in-Some
returns-in-Some c = λ h.
    let plane = c.in-Some.plane.now in let is = c.in-Some.ensures.lookup in
    let a : c.word_at.result ≡ slice_index plane c.args.a = c.word_at.ensures in
    let b : c.word_at-in-Some.result ≡ slice_index plane c.args.b = c.word_at-in-Some.ensures in
    apart_in c.args.planes.now c.args.at c.args.a c.args.b plane (ltb-true c.args.at (length c.args.planes.now) (sym is.0)) (sym is.1)
    (sym (ap (λ x. bit_and x (slice_index plane c.args.b) == x) a) ∙ sym (ap (λ y. bit_and c.word_at.result y == c.word_at.result) b) ∙ sym c.is_part.ensures ∙ h)
