use Rattle.ir_rules.proofs.FirstFaults.{fault-broken, fault-least, fault-first, fault-none}
use Rattle.ir_rules.proofs.laws.first_fault.Goals as goal

pub returns-clause-broken : goal.returns-clause-broken
returns-clause-broken c = fault-broken

pub returns-clause-least : goal.returns-clause-least
returns-clause-least c = fault-least

pub returns-clause-first : goal.returns-clause-first
returns-clause-first c = fault-first

pub returns-clause-none : goal.returns-clause-none
returns-clause-none c = fault-none
