use Rattle.std.proofs.Common.{◌≡◌, Bool, map, take}
use Rattle.std.specs.List.{position_or_len}
use Rattle.std.specs.Iterator.Order.{ActsAsAtTwo}
use Rattle.change_classes.proofs.first.classes_by.Given as goal

abbrev pub invariant-loop-item : goal.invariant-loop-item
invariant-loop-item g l =
    (equal : g.row.T.Denot → g.row.T.Denot → Bool) → ActsAsAtTwo g.F.Fn l.same equal
    → l.numbers.items ≡ map (λ x. position_or_len (λ y. equal y x) l.items) (take l.item-index l.items)
