use Rattle.command_files.proofs.OneList.{mutants-refused-one, mutants-refused-read, mutants-one}
use Rattle.command_files.proofs.laws.one_mutants_file.Goals as goal

pub returns-clause-line : goal.returns-clause-line
returns-clause-line c = mutants-refused-one

pub returns-clause-either : goal.returns-clause-either
returns-clause-either c = mutants-refused-read

pub returns-clause-list : goal.returns-clause-list
returns-clause-list c = mutants-one
