use Rattle.std.proofs.Common.{◌≡◌, map, take}
use Rattle.ir_rules.specs.Codes.{scalar_in}
use Rattle.ir_codegen.proofs.functions.register_types.Given as goal

abbrev pub invariant-each : goal.invariant-each
invariant-each l = l.list ≡ map scalar_in (take l.kind-index l.kinds)
