use Rattle.ir_scopes.specs.Kinds.{kind_in}
use Rattle.ir_replacements.specs.Places.{IsPassed}
use Rattle.ir_replacements.proofs.places.places_of.Given as goal

abbrev pub invariant-each : goal.invariant-each
invariant-each l = IsPassed (kind_in l.kinds.names) l.items l.i l.places
