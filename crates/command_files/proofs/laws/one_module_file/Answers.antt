use Rattle.command_files.proofs.OneModule.{refused-one, refused-accepted, accepted-one}
use Rattle.command_files.proofs.laws.one_module_file.Goals as goal

pub returns-clause-line : goal.returns-clause-line
returns-clause-line c = refused-one

pub returns-clause-either : goal.returns-clause-either
returns-clause-either c = refused-accepted

pub returns-clause-loaded : goal.returns-clause-loaded
returns-clause-loaded c = accepted-one
