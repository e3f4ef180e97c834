use Rattle.std.proofs.Common.{◌≡◌, length}
use Rattle.code_form.specs.Variant.{number_at}
use Rattle.code_form.proofs.choices.number_in.Given as goal

abbrev pub invariant-each : goal.invariant-each
invariant-each l = number_at l.left l.at ≡ number_at l.choices l.at

abbrev pub decreases-each : goal.decreases-each
decreases-each l = length l.left
