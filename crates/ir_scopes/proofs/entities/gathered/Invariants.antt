use Rattle.std.proofs.Common.{◌≡◌, ◌≤◌, take}
use Rattle.ir_scopes.specs.Globals as spec
use Rattle.ir_scopes.specs.Kinds.{kind_in}
use Rattle.ir_scopes.proofs.entities.gathered.Given as goal

abbrev pub invariant-each : goal.invariant-each
invariant-each l = record {
  seen : l.globals ≡ spec.gathered (kind_in l.kinds.names) (take l.item-index l.items);
  few : l.globals.functions ≤ l.item-index;
}
