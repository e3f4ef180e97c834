use Rattle.std.proofs.Common.{◌≤◌, All, List, map, sym, ap, subst, ◌∙◌}
use Rattle.am_base.specs.declared.limits.TheConstants.{MEMORY_BYTES}
use Rattle.ir_names.specs.Names.{firsts}
use Rattle.ir_rules.specs.Types.{TypeDefs}
use Rattle.ir_rules.specs.Memory.{globals_end}
use Rattle.ir_memory.specs.Inits.{ItemIsSmall}
use Rattle.ir_memory.specs.Places.{placed, named}
use Rattle.ir_memory.specs.declared.places.Placed.{Placed}
use Rattle.mutant_list.proofs.Globals.{addresses-same}
use Rattle.mutant_list.proofs.addresses.addresses_in.Goals as goal

pub places_of-requires-clause-small : goal.places_of-requires-clause-small
places_of-requires-clause-small c = subst (λ (ds : TypeDefs). All (ItemIsSmall ds) c.args.items.now) (sym c.in_ok-types.ensures) c.requires.small

pub places_of-requires-clause-room : goal.places_of-requires-clause-room
places_of-requires-clause-room c =
    subst (λ (ds : TypeDefs). globals_end ds c.args.items.now ≤ MEMORY_BYTES) (sym c.in_ok-types.ensures) c.requires.room

pub returns : goal.returns
returns c =
    addresses-same c.args.items.now c.in_ok-types.types.defs c.in_ok-types.ensures (map placed c.in_ok-places.places.list) c.in_ok-table.table
    c.in_ok-places.ensures.list (c.in_ok-table.ensures ∙ ap (λ (l : List Placed). firsts (map named (map placed l))) c.as_slice.ensures)
