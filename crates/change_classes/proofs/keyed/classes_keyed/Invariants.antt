use Rattle.std.proofs.Common.{◌≡◌, Bool, map, take}
use Rattle.std.specs.List.{position_or_len}
use Rattle.std.specs.Iterator.Order.{ActsAsAtTwo}
use Rattle.change_classes.specs.Keyed.{HasEqualKeys}
use Rattle.change_classes.proofs.keyed.classes_keyed.Given as goal

abbrev pub invariant-loop-at : goal.invariant-loop-at
invariant-loop-at g l =
    (equal : g.row.T.Denot → g.row.T.Denot → Bool) → ActsAsAtTwo g.F.Fn l.same equal → HasEqualKeys equal l.keys l.items
    → l.numbers.items ≡ map (λ x. position_or_len (λ y. equal y x) l.items) (take l.at l.items)
