use Rattle.machine_form.specs.Machine.{case_trial}
use Rattle.machine_form.proofs.SameTests.{machine_same}
use Rattle.accmut_laws.proofs.ClassText.{one_class, to_one_class, shorter_is}
use Rattle.accmut_laws.proofs.language.classes_at_a_step.Goals as goal

pub returns-clause-one : goal.returns-clause-one
returns-clause-one p code table answers case n m k i j =
    let T = case_trial code table answers case in
    let same = machine_same code table answers in
    (one_class T same n m k, to_one_class T same n m k i j)

pub returns-clause-short : goal.returns-clause-short
returns-clause-short p code table answers case n m i = shorter_is (case_trial code table answers case) (machine_same code table answers) n m i
