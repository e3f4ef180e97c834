use Rattle.std.proofs.Common.{◌≡◌, ◌∷◌, map, take}
use Rattle.ir_rules.specs.Parts.{Typed}
use Rattle.ir_type_rules.proofs.operands.with_indices.Given as goal

abbrev pub invariant-each : goal.invariant-each
invariant-each l = map {B = Typed} (λ v. (v.0.now, v.1.now)) l.list ≡ (l.t, l.a) ∷ take l.index-index l.indices
