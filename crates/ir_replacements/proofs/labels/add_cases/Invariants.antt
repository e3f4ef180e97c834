use Rattle.std.proofs.Common.{◌≡◌, map, take}
use Rattle.std.specs.List.{fold}
use Rattle.ir_replacements.specs.Labels.{with_label}
use Rattle.ir_replacements.proofs.labels.add_cases.Given as goal

abbrev pub invariant-each : goal.invariant-each
invariant-each l = l.table ≡ fold with_label l.initial.table (map (λ c. c.2) (take l.case-index l.cases))
