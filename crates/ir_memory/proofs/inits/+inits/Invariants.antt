use Rattle.std.proofs.Common.{◌≡◌, ℕ, ◌+◌, ◌*◌, List, ◌++◌, map, take, length}
use Rattle.std.specs.List.{fold, flat_map}
use Rattle.ir_rules.specs.Memory.{with_field}
use Rattle.ir_memory.proofs.Walks.{lists, all_lists}
use Rattle.ir_memory.specs.Inits.{element, element_bytes}
use Rattle.ir_memory.proofs.inits.+inits.Given as goal

abbrev pub invariant-write_elements-each : goal.invariant-write_elements-each
invariant-write_elements-each l = record {
  defs : l.types.defs ≡ l.initial.types.defs;
  bytes : l.buffer ≡ l.initial.buffer ++ flat_map (element_bytes l.initial.types.defs l.names.addresses.now) (take l.e-index l.list);
}

abbrev pub invariant-write_fields-each : goal.invariant-write_fields-each
invariant-write_fields-each l = record {
  defs : l.types.defs ≡ l.initial.types.defs;
  bytes : (front bytes : List ℕ) → l.initial.buffer ≡ front ++ bytes → l.start ≡ length front
      → l.buffer ≡ front ++ fold (with_field l.initial.types.defs) bytes (map (element l.initial.types.defs l.names.addresses.now) (take l.e-index l.list));
}

abbrev pub decreases-write_init : goal.decreases-write_init
decreases-write_init l = 4 * lists l.init.now

abbrev pub decreases-write_elements : goal.decreases-write_elements
decreases-write_elements l = 4 * all_lists l.list.now + 1

abbrev pub decreases-write_field : goal.decreases-write_field
decreases-write_field l = 4 * lists l.field.now.1 + 1

abbrev pub decreases-write_fields : goal.decreases-write_fields
decreases-write_fields l = 4 * all_lists l.list.now + 2

abbrev pub decreases-write_struct : goal.decreases-write_struct
decreases-write_struct l = 4 * all_lists l.list.now + 3
