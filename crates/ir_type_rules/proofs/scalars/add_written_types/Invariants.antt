use Rattle.std.proofs.Common.{◌≡◌, ◌++◌, map, take}
use Rattle.ir_type_rules.proofs.scalars.add_written_types.Given as goal

abbrev pub invariant-each : goal.invariant-each
invariant-each l = map (λ t. t.now) l.list ≡ map (λ t. t.now) l.initial.list ++ map (λ v. v.0.now) (take l.operand-index l.operands)
