use Rattle.std.proofs.Common.{◌≡◌, Bool, length, get_or, ◌<◌}
use Rattle.std.specs.Cmp.{IsStrictWeakOrder}
use Rattle.std.specs.List.{IsFirstBest}
use Rattle.std.specs.Iterator.Order.{ActsAsAtTwo}
use Rattle.picker.specs.declared.picker.Offer.{Offer}
use Rattle.picker.proofs.ordered.first_best.Given as goal

abbrev pub invariant-loop-at : goal.invariant-loop-at
invariant-loop-at g l = record {
  within : l.best < length l.live;
  top : l.top ≡ get_or l.live l.best l.top;
  best : (order : Offer → Offer → Bool) → ActsAsAtTwo g.F.Fn l.beats order → IsStrictWeakOrder order → IsFirstBest order l.live l.at l.best;
}
