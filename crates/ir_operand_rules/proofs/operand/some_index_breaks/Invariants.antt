use Rattle.std.proofs.Common.{◌≡◌, take}
use Rattle.std.specs.List.{list_any}
use Rattle.ir_scopes.specs.Kinds.{kind_in}
use Rattle.ir_operand_rules.specs.Each.{index_breaks}
use Rattle.ir_operand_rules.proofs.operand.some_index_breaks.Given as goal

abbrev pub invariant-each : goal.invariant-each
invariant-each l = l.found ≡ list_any (index_breaks (kind_in l.tables.kinds.now.names) l.rule) (take l.index-index l.indices)
