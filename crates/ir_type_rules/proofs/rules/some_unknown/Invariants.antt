use Rattle.std.proofs.Common.{◌≡◌, take}
use Rattle.std.specs.List.{list_any}
use Rattle.ir_rules.specs.Types.{has_unknown}
use Rattle.ir_type_rules.proofs.rules.some_unknown.Given as goal

abbrev pub invariant-each : goal.invariant-each
invariant-each l = l.found ≡ list_any (λ t. has_unknown l.types.defs t.now) (take l.ty-index l.list)
