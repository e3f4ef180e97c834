use Rattle.std.proofs.lemmas.Result.{IfOk-at_ok, IfOk-weaker}
use Rattle.ports.specs.Asks.{AskedBy, answers_in}
use Rattle.suite_analysis.specs.Runs.{suite_asks}
use Rattle.suite_analysis.proofs.suite.report_of.Goals as goal

pub text_of-requires-clause-tests : goal.text_of-requires-clause-tests
text_of-requires-clause-tests g c = IfOk-at_ok _ c.in-Ok.is c.analyse_suite-ports.ensures.tests

pub text_of-requires-clause-sums : goal.text_of-requires-clause-sums
text_of-requires-clause-sums g c = IfOk-at_ok _ c.in-Ok.is c.analyse_suite-ports.ensures.sums

pub returns-in-Ok-clause-asks : goal.returns-in-Ok-clause-asks
returns-in-Ok-clause-asks g c =
    let old = g.P.Ports.outside c.args.ports in let new = g.P.Ports.outside c.analyse_suite-ports.result.0 in
    let asked = AskedBy old.asked new.asked (suite_asks c.args.code.now c.args.variants.now (answers_in old.answers) c.args.suite.now.tests) in
    IfOk-weaker c.text_of.result _ (λ _. asked) (λ text is. IfOk-at_ok _ c.in-Ok.is c.analyse_suite-ports.ensures.asks) c.text_of.ensures
