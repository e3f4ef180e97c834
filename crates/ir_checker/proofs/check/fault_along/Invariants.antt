use Rattle.std.proofs.Common.{◌≡◌, take, drop}
use Rattle.ir_rules.specs.Types.{type_defs}
use Rattle.ir_rules.specs.Rules.{fault_from, fault}
use Rattle.ir_scopes.specs.Kinds.{kind_in}
use Rattle.ir_pass.specs.Seen.{seen_of}
use Rattle.ir_pass.proofs.Heads.{Stands}
use Rattle.ir_checker.proofs.check.fault_along.Given as goal

abbrev pub invariant-each : goal.invariant-each
invariant-each g l = record {
  stands : Stands (kind_in l.known.kinds.now.names) l.items l.i l.inside l.frame;
  seen : l.seen ≡ seen_of (take l.i l.items);
  defs : g.R.TypeRules.defs l.rules ≡ type_defs l.items;
  judged : g.R.TypeRules.has_judged l.rules (take l.i l.items);
  rest : fault_from l.items l.known.ports.now l.i (drop l.i l.items) ≡ fault l.items l.known.ports.now;
}
