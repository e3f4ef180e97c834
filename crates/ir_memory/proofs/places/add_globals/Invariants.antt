use Rattle.std.proofs.Common.{◌≡◌, ◌++◌, All, map, drop}
use Rattle.ir_rules.specs.Memory.{places_from, end_from}
use Rattle.ir_memory.specs.Places.{globals_by, placed}
use Rattle.ir_memory.specs.Inits.{PlacedIsSmall}
use Rattle.ir_memory.proofs.places.add_globals.Given as goal

abbrev pub invariant-each : goal.invariant-each
invariant-each l = record {
  defs : l.types.defs ≡ l.initial.types.defs;
  small : All (PlacedIsSmall l.initial.types.defs) l.list;
  list : map placed l.list ++ places_from l.initial.types.defs l.end (globals_by l.constant (drop l.item-index l.items))
      ≡ map placed l.initial.list ++ places_from l.initial.types.defs l.at (globals_by l.constant l.items);
  end : end_from l.initial.types.defs l.end (globals_by l.constant (drop l.item-index l.items)) ≡ end_from l.initial.types.defs l.at (globals_by l.constant l.items);
}
