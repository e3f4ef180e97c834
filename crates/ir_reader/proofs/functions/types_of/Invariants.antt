use Rattle.std.proofs.Common.{◌≡◌, map, take}
use Rattle.ir_reader.proofs.functions.types_of.Given as goal

abbrev pub invariant-each : goal.invariant-each
invariant-each l = l.types ≡ map (λ p. p.0) (take l.parameter-index l.parameters)
