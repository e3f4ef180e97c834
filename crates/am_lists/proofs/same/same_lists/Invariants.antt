use Rattle.std.proofs.Common.{◌≡◌, take, length}
use Rattle.am_lists.proofs.same.same_lists.Given as goal

abbrev pub invariant-each : goal.invariant-each
invariant-each g l = (length l.xs ≡ length l.ys) × (take l.i l.xs ≡ take l.i l.ys)
