use Rattle.std.proofs.Common.{◌≡◌, take}
use Rattle.std.specs.List.{list_any}
use Rattle.ir_rules.specs.Types.{is_large}
use Rattle.ir_type_rules.proofs.rules.some_large.Given as goal

abbrev pub invariant-each : goal.invariant-each
invariant-each l = record {
  defs : l.types.defs ≡ l.initial.types.defs;
  found : l.found ≡ list_any (λ t. is_large l.initial.types.defs t.now) (take l.ty-index l.list);
}
