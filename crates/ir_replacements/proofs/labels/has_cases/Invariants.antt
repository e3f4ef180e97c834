use Rattle.std.proofs.Common.{◌≡◌, map, take, is_some}
use Rattle.std.specs.List.{list_all}
use Rattle.ir_names.specs.Names.{defined}
use Rattle.ir_replacements.proofs.labels.has_cases.Given as goal

abbrev pub invariant-each : goal.invariant-each
invariant-each l = l.all ≡ list_all (λ n. is_some (defined l.labels n)) (map (λ c. c.2) (take l.case-index l.cases))
