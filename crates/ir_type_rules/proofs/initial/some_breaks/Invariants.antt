use Rattle.std.proofs.Common.{◌≡◌, take}
use Rattle.std.specs.List.{list_any}
use Rattle.ir_scopes.specs.Kinds.{kind_in}
use Rattle.ir_operand_rules.specs.Each.{setting_in, operand_breaks}
use Rattle.ir_type_rules.proofs.initial.some_breaks.Given as goal

abbrev pub invariant-each : goal.invariant-each
invariant-each l =
    let s = setting_in (kind_in l.tables.kinds.now.names) l.tables.entities.now l.tables.locals.now in
    l.found ≡ list_any (λ v. operand_breaks s l.rule (v.0.now, v.1.now)) (take l.operand-index l.operands)
