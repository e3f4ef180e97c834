use Rattle.commands.proofs.OneReport.{report-one, rise-one}
use Rattle.commands.proofs.laws.one_report.Goals as goal

pub returns-clause-text : goal.returns-clause-text
returns-clause-text c code all answers show suite = report-one code all answers suite show

pub returns-clause-rise : goal.returns-clause-rise
returns-clause-rise c = rise-one
