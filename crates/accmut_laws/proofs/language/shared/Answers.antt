use Rattle.machine_form.specs.Machine.{case_trial}
use Rattle.machine_form.proofs.SameTests.{machine_same}
use Rattle.accmut_laws.proofs.SharedSteps.{share_together, together_share}
use Rattle.accmut_laws.proofs.WholeRuns.{whole_run}
use Rattle.accmut_laws.proofs.language.shared.Goals as goal

pub returns-clause-exactly : goal.returns-clause-exactly
returns-clause-exactly p code table answers case turns m k n l i over =
    let T = case_trial code table answers case in
    let same = machine_same code table answers in
    (share_together T same turns m k n l, together_share T same turns m k n l i over)

pub returns-clause-always : goal.returns-clause-always
returns-clause-always p code table answers case turns m k n l =
    share_together (case_trial code table answers case) (machine_same code table answers) turns m k n l

pub returns-clause-whole : goal.returns-clause-whole
returns-clause-whole p code table answers case some = whole_run (case_trial code table answers case) (machine_same code table answers) some
