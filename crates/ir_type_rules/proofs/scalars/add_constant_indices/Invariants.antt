use Rattle.std.proofs.Common.{◌≡◌, ◌++◌, map, take}
use Rattle.std.specs.List.{flat_map}
use Rattle.ir_rules.specs.Parts.{indices_of}
use Rattle.ir_type_rules.proofs.scalars.add_constant_indices.Given as goal

abbrev pub invariant-each : goal.invariant-each
invariant-each l = map (λ t. t.now) l.list
    ≡ map (λ t. t.now) l.initial.list ++ flat_map (λ v. map (λ i. i.0) (indices_of v.1.now)) (take l.operand-index l.operands)
