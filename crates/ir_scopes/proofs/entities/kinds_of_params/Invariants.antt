use Rattle.std.proofs.Common.{◌≡◌, map, take}
use Rattle.ir_scopes.specs.Kinds.{kind_in}
use Rattle.ir_scopes.proofs.entities.kinds_of_params.Given as goal

abbrev pub invariant-each : goal.invariant-each
invariant-each l = l.list ≡ map (λ p. kind_in l.kinds.names p.0) (take l.param-index l.params)
