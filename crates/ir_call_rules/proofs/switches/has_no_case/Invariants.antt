use Rattle.std.proofs.Common.{◌≡◌, take}
use Rattle.std.specs.List.{list_any}
use Rattle.ir_rules.specs.Paths.{no_case}
use Rattle.ir_scopes.specs.Kinds.{kind_in}
use Rattle.ir_call_rules.proofs.switches.has_no_case.Given as goal

abbrev pub invariant-each : goal.invariant-each
invariant-each l = l.found ≡ list_any (no_case (kind_in l.kinds.names) l.ty) (take l.case-index l.cases)
