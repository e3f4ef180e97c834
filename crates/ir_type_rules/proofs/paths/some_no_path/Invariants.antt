use Rattle.std.proofs.Common.{◌≡◌, take}
use Rattle.std.specs.List.{list_any}
use Rattle.ir_rules.specs.Paths as spec
use Rattle.ir_type_rules.proofs.paths.some_no_path.Given as goal

abbrev pub invariant-each : goal.invariant-each
invariant-each l = record {
  defs : l.types.defs ≡ l.initial.types.defs;
  found : l.found ≡ list_any (λ v. spec.no_constant_path l.initial.types.defs v.1.now) (take l.operand-index l.operands);
}
