use Rattle.std.proofs.Common.{◌≡◌, take}
use Rattle.std.specs.List.{list_any}
use Rattle.ir_rules.specs.Operands as spec
use Rattle.ir_scopes.specs.Kinds.{kind_in}
use Rattle.ir_type_rules.proofs.initial.some_no_integer.Given as goal

abbrev pub invariant-each : goal.invariant-each
invariant-each l = l.found ≡ list_any (λ t. spec.no_integer (kind_in l.kinds.names t.now)) (take l.ty-index l.list)
