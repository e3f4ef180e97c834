use Rattle.std.proofs.Common.{◌≡◌, is_none, take}
use Rattle.std.specs.List.{list_any}
use Rattle.ir_scopes.specs.Kinds.{kind_in}
use Rattle.ir_type_rules.proofs.scalars.some_no_scalar.Given as goal

abbrev pub invariant-each : goal.invariant-each
invariant-each l = l.found ≡ list_any (λ t. is_none (kind_in l.kinds.names t.now)) (take l.ty-index l.list)
