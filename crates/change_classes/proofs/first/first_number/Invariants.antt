use Rattle.std.proofs.Common.{◌≡◌, ℕ, ◌<◌, Bool, false, get_or}
use Rattle.std.specs.Iterator.Order.{ActsAsAtTwo}
use Rattle.change_classes.proofs.first.first_number.Given as goal

abbrev pub invariant-loop-other : goal.invariant-loop-other
invariant-loop-other g l = record {
  number : l.number ≡ l.other-index;
  none : (equal : g.row.T.Denot → g.row.T.Denot → Bool) → ActsAsAtTwo g.F.Fn l.same equal → (k : ℕ) → k < l.other-index
      → equal (get_or l.items k l.item) l.item ≡ false;
}
