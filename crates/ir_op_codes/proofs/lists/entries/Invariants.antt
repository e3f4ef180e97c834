use Rattle.std.proofs.Common.{◌≡◌, [], map, take}
use Rattle.std.specs.List.{fold}
use Rattle.ir_rules.specs.Codes.{typed_code, block_code, entry_once}
use Rattle.ir_op_codes.specs.Settings.{setting_by}
use Rattle.ir_op_codes.proofs.lists.entries.Given as goal

abbrev pub invariant-each : goal.invariant-each
invariant-each l = record {
  defs : l.types.defs ≡ l.initial.types.defs;
  known : l.known.keys ≡ map (λ e. e.0) l.entries;
  entries : l.entries ≡ fold entry_once [] (map (λ e. (
    block_code (setting_by l.initial.types.defs l.names) e.1,
    typed_code (setting_by l.initial.types.defs l.names) l.names.addresses.now l.ty e.0,
  )) (take l.e-index l.list));
}
