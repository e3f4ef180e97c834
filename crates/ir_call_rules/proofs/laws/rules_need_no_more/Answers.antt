use Rattle.ir_call_rules.proofs.Alike.{callee-alike, call-alike, entries-alike}
use Rattle.ir_call_rules.proofs.laws.rules_need_no_more.Goals as goal

pub returns-clause-callee : goal.returns-clause-callee
returns-clause-callee c = callee-alike

pub returns-clause-call : goal.returns-clause-call
returns-clause-call c = call-alike

pub returns-clause-entries : goal.returns-clause-entries
returns-clause-entries c = entries-alike
