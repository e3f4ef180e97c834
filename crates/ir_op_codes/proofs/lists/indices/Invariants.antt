use Rattle.std.proofs.Common.{◌≡◌, take}
use Rattle.std.specs.List.{flat_map}
use Rattle.ir_rules.specs.Codes.{index_code}
use Rattle.ir_op_codes.specs.Paths.{meant}
use Rattle.ir_op_codes.specs.Settings.{setting_by}
use Rattle.ir_op_codes.proofs.lists.indices.Given as goal

abbrev pub invariant-each : goal.invariant-each
invariant-each l = record {
  defs : l.types.defs ≡ l.initial.types.defs;
  indices : l.indices ≡ flat_map (λ m. index_code (setting_by l.initial.types.defs l.names) l.names.addresses.now (m.0.now, meant m.1)) (take l.m-index l.path);
}
