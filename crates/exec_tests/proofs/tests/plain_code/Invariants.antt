use Rattle.std.proofs.Common.{◌≡◌, length}
use Rattle.exec_tests.proofs.tests.plain_code.Given as goal

abbrev pub invariant-loop-at : goal.invariant-loop-at
invariant-loop-at l = length l.instrs.items ≡ l._at
