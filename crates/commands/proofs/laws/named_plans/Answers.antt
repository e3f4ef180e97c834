use Rattle.commands.proofs.Names.{check_named, make_named, run_named, alone_named, groups_named, load_named}
use Rattle.commands.proofs.laws.named_plans.Goals as goal

pub returns-clause-check : goal.returns-clause-check
returns-clause-check c = check_named

pub returns-clause-make : goal.returns-clause-make
returns-clause-make c = make_named

pub returns-clause-run : goal.returns-clause-run
returns-clause-run c = run_named

pub returns-clause-alone : goal.returns-clause-alone
returns-clause-alone c = alone_named

pub returns-clause-groups : goal.returns-clause-groups
returns-clause-groups c = groups_named

pub returns-clause-load : goal.returns-clause-load
returns-clause-load c = load_named
