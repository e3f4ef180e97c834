use Rattle.std.proofs.Common.{◌≡◌, map, take}
use Rattle.ir_rules.specs.Codes.{scalar_in}
use Rattle.ir_scopes.specs.Kinds.{kind_in}
use Rattle.ir_codegen.proofs.functions.param_types.Given as goal

abbrev pub invariant-each : goal.invariant-each
invariant-each l = l.list ≡ map (λ p. scalar_in (kind_in l.kinds.names p.0)) (take l.param-index l.params)
