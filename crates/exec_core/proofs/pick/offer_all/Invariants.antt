use Rattle.std.proofs.Common.{◌≡◌, map, take}
use Rattle.exec_core.specs.Picked.{offer_of}
use Rattle.exec_core.proofs.pick.offer_all.Given as goal

abbrev pub invariant-loop-l : goal.invariant-loop-l
invariant-loop-l g l = l.offers.items ≡ map offer_of (take l.l-index l.lives)
