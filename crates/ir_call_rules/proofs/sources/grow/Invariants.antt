use Rattle.std.proofs.Common.{◌≡◌, ℕ, suc, ◌-◌, length}
use Rattle.ir_call_rules.specs.Sources.{bucket}
use Rattle.ir_call_rules.proofs.sources.grow.Given as goal

abbrev pub invariant-each : goal.invariant-each
invariant-each l = (b : ℕ) → bucket l.lists.items b ≡ bucket l.initial.lists.items b

abbrev pub decreases-each : goal.decreases-each
decreases-each l = suc l.block - length l.lists.items
