use Rattle.std.proofs.Common.{◌≡◌, map, take}
use Rattle.machine_form.specs.Machine.{outcome_at}
use Rattle.shared_machine.specs.Shown.{standing}
use Rattle.shared_analysis.proofs.ended.ended_classes.Given as goal

abbrev pub invariant-loop-class : goal.invariant-loop-class
invariant-loop-class g l = l.ended ≡ map (λ c. record { outcome = outcome_at (standing l.machine.store c.state.bare c.state.memory); members = c.members; length = c.length }) (take l.class-index l.classes)
