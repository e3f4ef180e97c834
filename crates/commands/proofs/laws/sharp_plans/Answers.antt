use Rattle.commands.proofs.Sharp.{check_sharp, make_sharp, run_sharp, alone_sharp, groups_sharp, load_sharp}
use Rattle.commands.proofs.laws.sharp_plans.Goals as goal

pub returns-clause-check : goal.returns-clause-check
returns-clause-check c = check_sharp

pub returns-clause-make : goal.returns-clause-make
returns-clause-make c = make_sharp

pub returns-clause-run : goal.returns-clause-run
returns-clause-run c = run_sharp

pub returns-clause-alone : goal.returns-clause-alone
returns-clause-alone c = alone_sharp

pub returns-clause-groups : goal.returns-clause-groups
returns-clause-groups c = groups_sharp

pub returns-clause-load : goal.returns-clause-load
returns-clause-load c = load_sharp
