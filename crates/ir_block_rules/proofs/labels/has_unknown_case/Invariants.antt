use Rattle.std.proofs.Common.{◌≡◌, map, not, take}
use Rattle.std.specs.List.{list_any}
use Rattle.ir_names.specs.Names.{defined}
use Rattle.ir_rules.specs.Blocks as spec
use Rattle.ir_block_rules.proofs.labels.has_unknown_case.Given as goal

abbrev pub invariant-each : goal.invariant-each
invariant-each l = l.found ≡ list_any (λ n. not (spec.is_block (defined l.locals n))) (map (λ e. e.2) (take l.case-index l.cases))
