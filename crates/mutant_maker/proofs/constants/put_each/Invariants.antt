use Rattle.std.proofs.Common.{◌≡◌, map, take}
use Rattle.ir_tree.specs.declared.operand.Opd.TheVariants as opd
use Rattle.mutant_maker.specs.Makers.{with_value}
use Rattle.mutant_maker.specs.Walks.{with_ops}
use Rattle.mutant_maker.proofs.constants.put_each.Given as goal

abbrev pub invariant-each : goal.invariant-each
invariant-each l = l.walk ≡ with_ops l.initial.walk (map (λ z. with_value l.op l.k (opd.Number z)) (take l.z-index l.numbers))
