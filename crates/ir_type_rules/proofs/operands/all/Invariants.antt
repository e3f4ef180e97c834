use Rattle.std.proofs.Common.{◌≡◌, map, take}
use Rattle.ir_rules.specs.Parts.{Typed}
use Rattle.ir_type_rules.proofs.operands.all.Given as goal

abbrev pub invariant-each : goal.invariant-each
invariant-each l = map {B = Typed} (λ v. (v.0.now, v.1.now)) l.list ≡ take l.operand-index l.operands
