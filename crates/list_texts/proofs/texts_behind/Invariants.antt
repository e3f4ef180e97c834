use Rattle.list_texts.proofs.Reading.{SoFar}
use Rattle.list_texts.proofs.texts_behind.Given as goal

abbrev pub invariant-each : goal.invariant-each
invariant-each l = SoFar l.width l.initial.reader l.reader l.k l.texts
