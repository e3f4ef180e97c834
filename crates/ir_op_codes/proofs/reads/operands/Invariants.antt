use Rattle.std.proofs.Common.{◌≡◌, map, take}
use Rattle.ir_rules.specs.Codes.{typed_code}
use Rattle.ir_op_codes.specs.Settings.{setting_by}
use Rattle.ir_op_codes.proofs.reads.operands.Given as goal

abbrev pub invariant-each : goal.invariant-each
invariant-each l = record {
  defs : l.types.defs ≡ l.initial.types.defs;
  list : l.operands ≡ map (λ v. typed_code (setting_by l.initial.types.defs l.names) l.names.addresses.now v.0 v.1) (take l.v-index l.list);
}
