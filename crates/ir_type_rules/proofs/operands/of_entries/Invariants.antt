use Rattle.std.proofs.Common.{◌≡◌, map, take}
use Rattle.ir_rules.specs.Parts.{Typed}
use Rattle.ir_type_rules.proofs.operands.of_entries.Given as goal

abbrev pub invariant-each : goal.invariant-each
invariant-each l = map {B = Typed} (λ v. (v.0.now, v.1.now)) l.list ≡ map {B = Typed} (λ e. (l.t, e.0)) (take l.entry-index l.entries)
