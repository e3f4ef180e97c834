use Rattle.ir_text.proofs.PlainNames.{plain-local, plain-global, plain-label}
use Rattle.ir_text.proofs.laws.plain_names.Goals as goal

pub returns-clause-local : goal.returns-clause-local
returns-clause-local c = plain-local

pub returns-clause-global : goal.returns-clause-global
returns-clause-global c = plain-global

pub returns-clause-label : goal.returns-clause-label
returns-clause-label c = plain-label
