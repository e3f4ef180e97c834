use Rattle.std.proofs.Common.{◌≡◌, map, take}
use Rattle.ir_scopes.specs.Kinds.{kind_in}
use Rattle.ir_scopes.proofs.entities.kinds_of.Given as goal

abbrev pub invariant-each : goal.invariant-each
invariant-each l = l.list ≡ map (kind_in l.kinds.names) (take l.ty-index l.types)
