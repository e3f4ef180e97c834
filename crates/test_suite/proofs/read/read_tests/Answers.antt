use Rattle.list_records.specs.Records.{rows_of}
use Rattle.test_suite.proofs.Fits.{answer_fits}
use Rattle.test_suite.proofs.read.read_tests.Goals as goal

pub returns-in-Ok-clause-fits : goal.returns-in-Ok-clause-fits
returns-in-Ok-clause-fits c =
    answer_fits c.args.code.now c.args.default_budget (rows_of c.args.text.now) c.in-Ok.answer c.requires.some c.requires.few c.in-Ok.ensures
