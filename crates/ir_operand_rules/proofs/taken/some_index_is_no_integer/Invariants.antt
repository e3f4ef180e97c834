use Rattle.std.proofs.Common.{◌≡◌, take}
use Rattle.std.specs.List.{list_any}
use Rattle.ir_rules.specs.Operands as spec
use Rattle.ir_scopes.specs.Kinds.{kind_in}
use Rattle.ir_operand_rules.proofs.taken.some_index_is_no_integer.Given as goal

abbrev pub invariant-each : goal.invariant-each
invariant-each l = l.found ≡ list_any (λ i. spec.no_integer (kind_in l.kinds.names i.0)) (take l.index-index l.indices)
