use Rattle.std.proofs.Common.{◌≡◌, map, take}
use Rattle.ir_types.specs.Graph.{numbers_in}
use Rattle.ir_types.proofs.mentions.edges_of.Given as goal

abbrev pub invariant-each : goal.invariant-each
invariant-each l = l.edges ≡ map (λ b. numbers_in l.numbers b.now) (take l.ty-index l.bodies)
