use Rattle.std.proofs.Common.{ℕ, ◌<◌}
use Rattle.ir_types.specs.Named.{Stands}
use Rattle.ir_types.proofs.order.with_all.Given as goal

abbrev pub invariant-each : goal.invariant-each
invariant-each l = (d : ℕ) → d < l.d → Stands l.order d
