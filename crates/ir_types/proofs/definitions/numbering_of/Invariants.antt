use Rattle.std.proofs.Common.{◌≡◌, ◌≤◌, take}
use Rattle.ir_types.specs.Definitions as spec
use Rattle.ir_types.proofs.definitions.numbering_of.Given as goal

abbrev pub invariant-each : goal.invariant-each
invariant-each l = record {
  seen : l.numbering ≡ spec.numbering_of (take l.item-index l.items);
  few : l.numbering.next ≤ l.item-index;
}
