use Rattle.std.proofs.Common.{◌≡◌, ℕ, ◌<◌, Bool, false, get_or}
use Rattle.std.specs.Iterator.Order.{ActsAsAtTwo}
use Rattle.change_classes.proofs.keyed.first_in.Given as goal

abbrev pub invariant-loop-entry : goal.invariant-loop-entry
invariant-loop-entry g l =
    (equal : g.row.T.Denot → g.row.T.Denot → Bool) → ActsAsAtTwo g.F.Fn l.same equal → (k : ℕ) → k < l.entry-index
    → equal (get_or l.items (get_or l.run k (0, 0)).1 l.item) l.item ≡ false
