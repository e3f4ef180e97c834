use Rattle.std.proofs.Common.{◌≡◌, ◌∷◌, map, take}
use Rattle.ir_rules.specs.Parts.{Typed}
use Rattle.ir_type_rules.proofs.operands.with_cases.Given as goal

abbrev pub invariant-each : goal.invariant-each
invariant-each l = map {B = Typed} (λ v. (v.0.now, v.1.now)) l.list ≡ (l.t, l.a) ∷ map {B = Typed} (λ c. (c.0, c.1)) (take l.case-index l.cases)
