use Rattle.std.proofs.Common.{◌≡◌, ◌+◌, ◌*◌, ◌&&◌, take}
use Rattle.type_layout.specs.declared.ty.Ty.{out-Ty}
use Rattle.type_table.specs.Table.{Keeps, type_at}
use Rattle.ir_type_rules.proofs.Inits.{lists, all_lists}
use Rattle.ir_init_rules.specs.Levels.{part_type}
use Rattle.ir_init_rules.specs.Fits.{elements_fit}
use Rattle.ir_init_rules.proofs.fits.+fits.Given as goal

abbrev pub invariant-elements_fit-each : goal.invariant-elements_fit-each
invariant-elements_fit-each l = record {
  defs : l.types.defs ≡ l.initial.types.defs;
  kept : Keeps l.initial.types.types l.types.types;
  fits : l.fits ≡ (l.fn.whole && elements_fit l.initial.types.defs (part_type (out-Ty (type_at l.initial.types.types l.n))) (take l.k l.elements));
}

abbrev pub decreases-init_fits : goal.decreases-init_fits
decreases-init_fits l = 3 * lists l.init.now

abbrev pub decreases-elements_fit : goal.decreases-elements_fit
decreases-elements_fit l = 3 * all_lists l.elements.now + 2

abbrev pub decreases-element_fits : goal.decreases-element_fits
decreases-element_fits l = 3 * lists l.element.now.1 + 1
