use Rattle.std.proofs.Common.{◌≡◌, ◌≢◌, ℕ, ◌<◌, get_or}
use Rattle.exec_tests.proofs.tape.place_of.Given as goal

abbrev pub invariant-loop-other : goal.invariant-loop-other
invariant-loop-other l = record { at : l.at ≡ l.other-index; none : (k : ℕ) → k < l.other-index → get_or l.numbers k 0 ≢ l.number }
