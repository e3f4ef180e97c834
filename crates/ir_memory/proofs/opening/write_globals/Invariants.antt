use Rattle.std.proofs.Common.{◌≡◌, [], map, take}
use Rattle.std.specs.List.{fold}
use Rattle.ir_rules.specs.Memory.{with_global}
use Rattle.ir_memory.specs.Places.{placed}
use Rattle.ir_memory.proofs.opening.write_globals.Given as goal

abbrev pub invariant-each : goal.invariant-each
invariant-each l = record {
  defs : l.types.defs ≡ l.initial.types.defs;
  bytes : l.buffer ≡ fold (with_global l.initial.types.defs l.names.addresses.now) [] (map placed (take l.global-index l.list));
}
