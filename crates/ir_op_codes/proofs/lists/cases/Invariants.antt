use Rattle.std.proofs.Common.{◌≡◌, map, take}
use Rattle.ir_rules.specs.Codes.{case_code}
use Rattle.ir_op_codes.specs.Settings.{setting_by}
use Rattle.ir_op_codes.proofs.lists.cases.Given as goal

abbrev pub invariant-each : goal.invariant-each
invariant-each l = l.cases ≡ map (case_code (setting_by l.types.defs l.names) l.ty) (take l.case-index l.list)
