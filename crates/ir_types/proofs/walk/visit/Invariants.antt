use Rattle.std.proofs.Common.{take}
use Rattle.ir_types.specs.Walks.{Visits}
use Rattle.ir_types.proofs.walk.visit.Given as goal

abbrev pub invariant-each : goal.invariant-each
invariant-each l = Visits l.initial.walk l.list (take l.number-index l.list) l.walk
