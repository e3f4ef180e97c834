use Rattle.std.proofs.Common.{◌∙◌, ◌≤◌, [], ◌∷◌, ◌++◌, ap, arith, subst, sym, take}
use Rattle.std.proofs.lemmas.List.{length-take-le, take_more}
use Rattle.std.proofs.lemmas.Result.{IfOk-at_ok}
use Rattle.ports.specs.Asks.{answers_in}
use Rattle.traces.specs.Work.{steps, asks}
use Rattle.suite_analysis.specs.Parts.{AreDone}
use Rattle.suite_analysis.specs.Runs.{trial_on}
use Rattle.suite_analysis.proofs.DoneLemmas.{letters_count}
use Rattle.suite_analysis.proofs.SuiteLemmas.{sum_more, sum_within}
use Rattle.suite_analysis.proofs.suite.run_tests.Goals as goal

pub run_test-back-requires-clause-few_tests : goal.run_test-back-requires-clause-few_tests
run_test-back-requires-clause-few_tests g c =
    let n = letters_count _ _ _ _ _ c.loop-test.invariant.done.letters in
    let t = length-take-le c.loop-test.test-index c.args.tests.now (omega (arith, c.loop-test-test.true)) in
    omega (arith, n, t, c.loop-test-test.true, c.requires.few_tests)

pub returns-in-Err-answer-clause-asks_at_most : goal.returns-in-Err-answer-clause-asks_at_most
returns-in-Err-answer-clause-asks_at_most g c = λ p.
    let inv = c.loop-test.invariant in
    let A = answers_in (g.P.Ports.outside c.args.ports).answers in
    let a = (rw inv.answers at c.run_test-back.ensures.asks_at_most) p in let b = inv.asks p in
    let w = sum_within c.args.tests.now c.loop-test.test-index c.test-item.result c.loop-test-test.true c.test-item.is
    (λ t. asks (trial_on c.args.code.now c.args.variants.now A t) p) in
    (omega (arith, a.0, b), omega (arith, a.1, b, w))

pub returns-in-Err-answer-clause-meter_within : goal.returns-in-Err-answer-clause-meter_within
returns-in-Err-answer-clause-meter_within g c =
    let inv = c.loop-test.invariant in
    let A = answers_in (g.P.Ports.outside c.args.ports).answers in
    let a = rw inv.answers at c.run_test-back.ensures.meter_within in let b = inv.meter in
    let w = sum_within c.args.tests.now c.loop-test.test-index c.test-item.result c.loop-test-test.true c.test-item.is
    (λ t. steps (trial_on c.args.code.now c.args.variants.now A t)) in record {
      least = omega (arith, a.least, b);
      most = omega (arith, a.most, b, w);
    }

pub loop-test-preserved : goal.loop-test-preserved
loop-test-preserved g c =
    let inv = c.loop-test.invariant in let i = c.loop-test.test-index in let x = c.test-item.result in
    let code = c.args.code.now in let table = c.args.variants.now in let tests = c.args.tests.now in
    let A = answers_in (g.P.Ports.outside c.args.ports).answers in
    let more = sum_more tests i x c.loop-test-test.true c.test-item.is in
    let run = c.run_test-back.ensures in record {
      done = subst (λ ts. AreDone code table A ts c.run_test-back.new.done)
          (sym (take_more tests i x c.loop-test-test.true ∙ ap (λ t. take i tests ++ t ∷ []) (sym c.test-item.is)))
          (IfOk-at_ok _ c.in-Ok-answer.is (rw inv.answers at run.done) (take i tests) inv.done);
      signs = run.signs ∙ inv.signs;
      answers = run.answers ∙ inv.answers;
      asks = λ p.
          let a = IfOk-at_ok _ c.in-Ok-answer.is (rw inv.answers at run.asks) p in let b = inv.asks p in
          let s = more (λ t. asks (trial_on code table A t) p) in omega (arith, a, b, s);
      meter =
          let a = IfOk-at_ok _ c.in-Ok-answer.is (rw inv.answers at run.meter) in
          let s = more (λ t. steps (trial_on code table A t)) in omega (arith, a, inv.meter, s);
      few_asks = λ p.
          let a : asks (trial_on code table A x) p ≤ 655360000000 = (rw inv.answers at run.few_asks) p in
          let s = more (λ t. asks (trial_on code table A t) p) in omega (arith, a, inv.few_asks p, s);
      few_steps =
          let a : steps (trial_on code table A x) ≤ 655360000000 = rw inv.answers at run.few_steps in
          let s = more (λ t. steps (trial_on code table A t)) in omega (arith, a, inv.few_steps, s);
    }
