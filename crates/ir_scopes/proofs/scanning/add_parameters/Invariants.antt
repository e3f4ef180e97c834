use Rattle.std.proofs.Common.{◌≡◌, take}
use Rattle.std.specs.List.{fold}
use Rattle.ir_rules.specs.Scopes as spec
use Rattle.ir_scopes.specs.Kinds.{kind_in}
use Rattle.ir_scopes.proofs.scanning.add_parameters.Given as goal

abbrev pub invariant-each : goal.invariant-each
invariant-each l = l.scope ≡ fold (spec.with_parameter (kind_in l.kinds.names)) l.initial.scope (take l.param-index l.params)
