use Rattle.std.proofs.Common.{◌≡◌, ◌∷◌, ◌++◌, map, take}
use Rattle.std.specs.List.{flat_map}
use Rattle.ir_rules.specs.Parts.{opd_types}
use Rattle.ir_type_rules.proofs.parts.add_operand_types.Given as goal

abbrev pub invariant-each : goal.invariant-each
invariant-each l = map (λ t. t.now) l.list ≡ map (λ t. t.now) l.initial.list ++ flat_map (λ v. v.0.now ∷ opd_types v.1.now) (take l.operand-index l.operands)
