use Rattle.std.proofs.Common.{◌≡◌, [], ◌∷◌, take}
use Rattle.std.specs.Prelude.{flat_map, if◌then◌else◌}
use Rattle.mutant_maker.specs.Makers.{same_operation}
use Rattle.mutant_maker.specs.Walks.{with_ops}
use Rattle.mutant_maker.specs.Changes.{with_operation}
use Rattle.mutant_maker.proofs.makers.put_operations.Given as goal

abbrev pub invariant-each : goal.invariant-each
invariant-each l = l.walk ≡ with_ops l.initial.walk (flat_map (λ k. if same_operation l.b k then [] else with_operation l.op k ∷ []) (take l.k-index l.all))
