use Rattle.traces.proofs.Prefixes.{steps-CountsPrefixes}
use Rattle.machine_form.specs.Machine.{case_trial}
use Rattle.machine_form.proofs.SameTests.{machine_same}
use Rattle.accmut_laws.proofs.language.steps_are_prefixes.Goals as goal

pub returns : goal.returns
returns c code table answers case = steps-CountsPrefixes (case_trial code table answers case) (machine_same code table answers)
