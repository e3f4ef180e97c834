use Rattle.std.proofs.Common.{◌≡◌, ◌++◌, map, take}
use Rattle.ir_type_rules.proofs.parts.add_index_types.Given as goal

abbrev pub invariant-each : goal.invariant-each
invariant-each l = map (λ t. t.now) l.list ≡ map (λ t. t.now) l.initial.list ++ map (λ i. i.0) (take l.index-index l.indices)
