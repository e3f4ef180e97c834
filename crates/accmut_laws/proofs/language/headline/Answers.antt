use Rattle.accmut_laws.proofs.Reports.{run_reports, groups_show}
use Rattle.accmut_laws.proofs.language.headline.Goals as goal

pub returns-clause-run : goal.returns-clause-run
returns-clause-run c before after names budget order with_splits h = run_reports before after names budget order with_splits h

pub returns-clause-groups : goal.returns-clause-groups
returns-clause-groups c before after names test step budget order h =
    groups_show before after names c.groups_are_classes.ensures test step budget order h
