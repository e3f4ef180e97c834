use Rattle.std.proofs.Common.{◌≡◌, ℕ, ◌<◌, false}
use Rattle.suite_reduce.specs.Kills.{is_killed_by}
use Rattle.suite_reduce.proofs.kills.first_killer.Given as goal

abbrev pub invariant-each : goal.invariant-each
invariant-each l = (k : ℕ) → k < l.t → is_killed_by l.matrix l.m k ≡ false
