use Rattle.accmut_laws.proofs.AcceptedLists.{accepted_order, accepted_mutants}
use Rattle.accmut_laws.proofs.ListTables.{list_with}
use Rattle.accmut_laws.proofs.answers.lists_have_tables.Goals as goal

pub returns-clause-mutants : goal.returns-clause-mutants
returns-clause-mutants p signs m text all are = accepted_mutants signs m text all are

pub returns-clause-tables : goal.returns-clause-tables
returns-clause-tables p signs m text all are = list_with m.code all (accepted_order signs m text all are)
