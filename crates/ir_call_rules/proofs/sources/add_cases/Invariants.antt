use Rattle.std.proofs.Common.{◌≡◌, ℕ, [], map, take}
use Rattle.std.specs.List.{fold}
use Rattle.ir_call_rules.specs.Alone.{branches_alone}
use Rattle.ir_call_rules.specs.Sources.{bucket, with_edge}
use Rattle.ir_call_rules.proofs.sources.add_cases.Given as goal

abbrev pub invariant-each : goal.invariant-each
invariant-each l =
    let s = branches_alone l.locals [] in
    (b : ℕ) → bucket l.sources b ≡ fold (with_edge s b) (bucket l.initial.sources b) (map (λ c. (l.from, c.2)) (take l.case-index l.cases))
