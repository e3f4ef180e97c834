use Rattle.std.proofs.Common.{◌≡◌, take}
use Rattle.ir_rules.specs.Scopes as spec
use Rattle.ir_scopes.specs.Kinds.{kind_in}
use Rattle.ir_scopes.proofs.scanning.scope_of.Given as goal

abbrev pub invariant-each : goal.invariant-each
invariant-each l = l.scope ≡ spec.scope_of (kind_in l.kinds.names) (take l.item-index l.items)
