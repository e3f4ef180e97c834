use Rattle.std.proofs.Common.{◌≤◌, All, List, map, refl, sym, ap, subst, ◌∙◌}
use Rattle.am_base.specs.declared.limits.TheConstants.{MEMORY_BYTES}
use Rattle.ir_names.specs.Names.{firsts}
use Rattle.ir_rules.specs.Types.{TypeDefs, type_defs, kind_of}
use Rattle.ir_rules.specs.Memory.{globals_end, constants_end, places_of}
use Rattle.ir_memory.specs.Inits.{ItemIsSmall, PlacedIsSmall}
use Rattle.ir_memory.specs.Places.{placed, named}
use Rattle.ir_memory.specs.declared.places.Placed.{Placed}
use Rattle.ir_module.proofs.Modules.{items-small, end-small, few-functions, addresses-are}
use Rattle.ir_module.proofs.module.placed_code.Goals as goal

pub places_of-requires-clause-small : goal.places_of-requires-clause-small
places_of-requires-clause-small c =
    subst (λ (ds : TypeDefs). All (ItemIsSmall ds) c.args.items.now) (sym c.requires.types) (items-small c.args.items.now c.args.signs.now c.requires.faultless)

pub places_of-requires-clause-room : goal.places_of-requires-clause-room
places_of-requires-clause-room c =
    subst (λ (ds : TypeDefs). globals_end ds c.args.items.now ≤ MEMORY_BYTES) (sym c.requires.types)
    (end-small c.args.items.now c.args.signs.now c.requires.faultless)

pub invariant_of-tables : goal.invariant_of-tables
invariant_of-tables c =
    let items = c.args.items.now in
    record {
      functions =
          few-functions items c.args.signs.now (type_defs items) (kind_of (type_defs items)) refl refl c.requires.whole c.requires.faultless c.args.globals.now
          c.requires.globals;
    }

pub code_by-requires-clause-whole : goal.code_by-requires-clause-whole
code_by-requires-clause-whole c = c.requires.whole

pub code_by-requires-clause-few : goal.code_by-requires-clause-few
code_by-requires-clause-few c = c.requires.few

pub code_by-requires-clause-faultless : goal.code_by-requires-clause-faultless
code_by-requires-clause-faultless c = c.requires.faultless

pub code_by-requires-clause-ports : goal.code_by-requires-clause-ports
code_by-requires-clause-ports c = c.requires.ports

pub code_by-requires-clause-types : goal.code_by-requires-clause-types
code_by-requires-clause-types c = c.in_ok-places.ensures.defs ∙ c.requires.types

pub code_by-requires-clause-kinds : goal.code_by-requires-clause-kinds
code_by-requires-clause-kinds c = c.requires.kinds

pub code_by-requires-clause-entities : goal.code_by-requires-clause-entities
code_by-requires-clause-entities c = c.requires.globals

pub code_by-requires-clause-addresses : goal.code_by-requires-clause-addresses
code_by-requires-clause-addresses c =
    let items = c.args.items.now in
    addresses-are items c.args.signs.now c.args.types.now.defs (kind_of c.args.types.now.defs) c.requires.types refl
    (map placed c.in_ok-places.places.list) c.in_ok-addresses.addresses c.in_ok-places.ensures.list
    (c.in_ok-addresses.ensures ∙ ap (λ (l : List Placed). firsts (map named (map placed l))) c.as_slice.ensures)

pub code_by-requires-clause-small : goal.code_by-requires-clause-small
code_by-requires-clause-small c =
    subst (λ (ds : TypeDefs). All (PlacedIsSmall ds) c.in_ok-places.places.list) c.requires.types c.in_ok-places.ensures.small

pub code_by-requires-clause-list : goal.code_by-requires-clause-list
code_by-requires-clause-list c = c.in_ok-places.ensures.list ∙ ap (λ (ds : TypeDefs). places_of ds c.args.items.now) c.requires.types

pub code_by-requires-clause-constants : goal.code_by-requires-clause-constants
code_by-requires-clause-constants c =
    c.in_ok-places.ensures.constants ∙ ap (λ (ds : TypeDefs). constants_end ds c.args.items.now) c.requires.types

pub code_by-requires-clause-end : goal.code_by-requires-clause-end
code_by-requires-clause-end c = c.in_ok-places.ensures.end ∙ ap (λ (ds : TypeDefs). globals_end ds c.args.items.now) c.requires.types

pub returns : goal.returns
returns c = c.code_by.ensures
