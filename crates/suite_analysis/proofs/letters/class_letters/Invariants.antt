use Rattle.std.proofs.Common.{take}
use Rattle.suite_analysis.specs.Parts.{AreClassVerdicts}
use Rattle.suite_analysis.proofs.letters.class_letters.Given as goal

abbrev pub invariant-loop-class : goal.invariant-loop-class
invariant-loop-class l = AreClassVerdicts (take l.class-index l.classes) l.expected l.letters.items
