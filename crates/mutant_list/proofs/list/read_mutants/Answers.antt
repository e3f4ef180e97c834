use Rattle.std.proofs.Common.{◌≤◌, All, List, sym, subst}
use Rattle.am_base.specs.declared.limits.TheConstants.{MEMORY_BYTES}
use Rattle.ir_tree.specs.declared.item.Item.{Item}
use Rattle.ir_rules.specs.Types.{type_defs}
use Rattle.ir_rules.specs.Memory.{globals_end}
use Rattle.ir_memory.specs.Inits.{ItemIsSmall}
use Rattle.mutant_list.proofs.Globals.{items-small, end-small}
use Rattle.mutant_list.proofs.list.read_mutants.Goals as goal

pub addresses_in-requires-clause-small : goal.addresses_in-requires-clause-small
addresses_in-requires-clause-small c =
    subst (λ (l : List Item). All (ItemIsSmall (type_defs l)) l) (sym c.as_slice.ensures) (items-small c.args.m.now.items c.args.signs.now c.requires.faultless)

pub addresses_in-requires-clause-room : goal.addresses_in-requires-clause-room
addresses_in-requires-clause-room c =
    subst (λ (l : List Item). globals_end (type_defs l) l ≤ MEMORY_BYTES) (sym c.as_slice.ensures) (end-small c.args.m.now.items c.args.signs.now c.requires.faultless)
