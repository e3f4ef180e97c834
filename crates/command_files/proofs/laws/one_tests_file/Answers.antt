use Rattle.command_files.proofs.OneSuite.{tests-refused-one, tests-refused-read, tests-one}
use Rattle.command_files.proofs.laws.one_tests_file.Goals as goal

pub returns-clause-line : goal.returns-clause-line
returns-clause-line c = tests-refused-one

pub returns-clause-either : goal.returns-clause-either
returns-clause-either c = tests-refused-read

pub returns-clause-suite : goal.returns-clause-suite
returns-clause-suite c = tests-one
