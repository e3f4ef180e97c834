use Rattle.std.proofs.Common.{◌≡◌, length}
use Rattle.flat_machine.specs.Taken.{taken}
use Rattle.flat_machine.proofs.numbers.trim.Given as goal

abbrev pub invariant-loop-last : goal.invariant-loop-last
invariant-loop-last l = taken l.marks.items ≡ taken l.initial.marks.items

abbrev pub decreases-loop-last : goal.decreases-loop-last
decreases-loop-last l = length l.marks.items
