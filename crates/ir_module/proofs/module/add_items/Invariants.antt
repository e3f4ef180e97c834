use Rattle.std.proofs.Common.{◌≡◌}
use Rattle.ir_rules.specs.Types.{type_defs}
use Rattle.ir_scopes.specs.Kinds.{kind_in}
use Rattle.ir_pass.proofs.Heads.{Stands}
use Rattle.ir_module.proofs.Turns.{IsSoFar}
use Rattle.ir_module.proofs.module.add_items.Given as goal

abbrev pub invariant-each : goal.invariant-each
invariant-each l = record {
  stands : Stands (kind_in l.tables.kinds.now.names) l.items l.i l.inside l.frame;
  defs : l.types.defs ≡ type_defs l.items;
  so_far : IsSoFar l.items l.tables.ports.now l.i l.parts;
}
