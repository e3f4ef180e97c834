use Rattle.std.proofs.lemmas.Result.{IfOk-at_ok, IfOk-weaker}
use Rattle.suite_analysis.proofs.LetterLemmas.{numbers_within}
use Rattle.suite_analysis.proofs.suite.run_test.Goals as goal

pub add-requires-clause-count : goal.add-requires-clause-count
add-requires-clause-count g c = (IfOk-at_ok _ c.in-Ok.is c.analyse_case-ports.ensures.analysis).shown.count

pub add-requires-clause-within : goal.add-requires-clause-within
add-requires-clause-within g c = numbers_within _ _ _ (IfOk-at_ok _ c.in-Ok.is c.analyse_case-ports.ensures.analysis).shown

pub returns-in-Ok-clause-done : goal.returns-in-Ok-clause-done
returns-in-Ok-clause-done g c =
    IfOk-weaker c.add.result _ _ (λ u h tests d. h _ (IfOk-at_ok _ c.in-Ok.is c.analyse_case-ports.ensures.analysis) tests d) c.add.ensures
