use Rattle.std.proofs.Common.{◌≡◌, drop}
use Rattle.ir_rules.specs.Entities.{same_kinds}
use Rattle.ir_scopes.proofs.scalars.same_kinds.Given as goal

abbrev pub invariant-each : goal.invariant-each
invariant-each l = same_kinds l.ts l.us ≡ same_kinds (drop l.i l.ts) (drop l.i l.us)
