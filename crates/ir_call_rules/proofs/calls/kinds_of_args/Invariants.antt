use Rattle.std.proofs.Common.{◌≡◌, map, take}
use Rattle.ir_scopes.specs.Kinds.{kind_in}
use Rattle.ir_call_rules.proofs.calls.kinds_of_args.Given as goal

abbrev pub invariant-each : goal.invariant-each
invariant-each l = l.list ≡ map (kind_in l.kinds.names) (map (λ x. x.0) (take l.arg-index l.args))
