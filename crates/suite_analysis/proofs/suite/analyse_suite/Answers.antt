use Rattle.std.proofs.Common.{◌≡◌, ◌≤◌, List, length, arith, subst}
use Rattle.std.specs.Prelude.{IfOk, OnOk}
use Rattle.std.proofs.lemmas.Result.{IfOk-weaker}
use Rattle.am_base.specs.declared.limits.TheConstants.{MAX_MUTANTS}
use Rattle.code_form.specs.Variant.{mutants_of}
use Rattle.ports.specs.Asks.{AskedBy, answers_in}
use Rattle.test_suite.specs.declared.suite.Test.{Test}
use Rattle.work_report.specs.Report.{FitsWords, total_of}
use Rattle.suite_analysis.specs.Parts.{AreDone}
use Rattle.suite_analysis.specs.declared.done.Done.{Done}
use Rattle.suite_analysis.specs.Runs.{suite_asks}
use Rattle.suite_analysis.proofs.DoneLemmas.{letters_count}
use Rattle.suite_analysis.proofs.SuiteLemmas.{fits_words}
use Rattle.suite_analysis.proofs.suite.analyse_suite.Goals as goal

pub returns-clause-done : goal.returns-clause-done
returns-clause-done g c =
    let code = c.args.code.now in let table = c.args.variants.now in let A = answers_in (g.P.Ports.outside c.args.ports).answers in
    subst (λ (tests : List Test). IfOk c.run_tests.result.1 (λ done. AreDone code table A tests done)) c.as_slice-tests.ensures c.run_tests.ensures.done

pub returns-clause-tests : goal.returns-clause-tests
returns-clause-tests g c =
    let code = c.args.code.now in let table = c.args.variants.now in let A = answers_in (g.P.Ports.outside c.args.ports).answers in
    IfOk-weaker c.run_tests.result.1 _ (λ (d : Done). length d.matrix.tests ≡ length c.args.suite.now.tests)
    (λ d done. letters_count code table A c.args.suite.now.tests d.matrix.tests (AreDone.letters done)) (returns-clause-done g c)

pub returns-clause-sums : goal.returns-clause-sums
returns-clause-sums g c =
    let code = c.args.code.now in let table = c.args.variants.now in let A = answers_in (g.P.Ports.outside c.args.ports).answers in
    let few : mutants_of table ≤ MAX_MUTANTS = omega (arith, c.mutants-mutants.ensures.mutants, c.mutants-mutants.ensures.few) in
    IfOk-weaker c.run_tests.result.1 _ (λ (d : Done). FitsWords (total_of d.works.items))
    (λ d done. fits_words code table A c.args.suite.now.tests d.works.items (AreDone.works done)
    few c.requires.suite.few c.requires.suite.cases) (returns-clause-done g c)

pub returns-clause-asks : goal.returns-clause-asks
returns-clause-asks g c =
    let old = g.P.Ports.outside c.args.ports in let new = g.P.Ports.outside c.run_tests.result.0 in
    subst (λ (tests : List Test). OnOk c.run_tests.result.1
    (AskedBy old.asked new.asked (suite_asks c.args.code.now c.args.variants.now (answers_in old.answers) tests))) c.as_slice-tests.ensures
    c.run_tests.ensures.asks
