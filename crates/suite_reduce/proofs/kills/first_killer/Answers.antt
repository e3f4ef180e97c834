use Rattle.std.proofs.Common.{◌≡◌, ◌+◌, length, sym, ap, ◌∙◌, arith}
use Rattle.suite_reduce.specs.Kills.{is_killed_by}
use Rattle.suite_reduce.proofs.Ranges.{place_is}
use Rattle.suite_reduce.proofs.kills.first_killer.Goals as goal

pub returns-then-is_killed_by : goal.returns-then-is_killed_by
returns-then-is_killed_by c =
    let p = is_killed_by c.args.matrix.now c.args.m in let t = c.each.t in let same : 0 + t ≡ t = omega arith in
    sym (place_is p 0 (length c.args.matrix.now.tests) t (omega arith) (λ k l u. c.each.invariant k (omega arith)) (λ l. ap p same ∙ sym c.if-is_killed_by.ensures))

pub returns : goal.returns
returns c =
    let p = is_killed_by c.args.matrix.now c.args.m in let n = length c.args.matrix.now.tests in
    c.tests-tests.ensures ∙ sym (place_is p 0 n n (omega arith) (λ k l u. c.each.invariant k (omega arith)) (λ l. absurd (omega arith)))
