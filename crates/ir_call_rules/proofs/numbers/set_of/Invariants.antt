use Rattle.std.proofs.Common.{◌≡◌, take}
use Rattle.ir_call_rules.specs.Numbers as spec
use Rattle.ir_call_rules.proofs.numbers.set_of.Given as goal

abbrev pub invariant-each : goal.invariant-each
invariant-each l = l.set ≡ spec.set_of (take l.n-index l.numbers)
