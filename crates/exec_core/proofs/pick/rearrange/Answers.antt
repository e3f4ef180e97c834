use Rattle.std.proofs.Common.{rules, ◌≡◌, set, refl, arith, subst}
use Rattle.exec_core.specs.Picked.{IsReplaced}
use Rattle.exec_core.specs.declared.in_place.Taken.{Taken}
use Rattle.exec_core.specs.declared.in_place.Taken.TheVariants.{GoesOn, Ended}
use Rattle.exec_core.proofs.OrderLemmas.{offered_without, offered_there}
use Rattle.exec_core.proofs.pick.rearrange.Goals as goal

pub returns-in-GoesOn-clause-offered : goal.returns-in-GoesOn-clause-offered
returns-in-GoesOn-clause-offered g c before seen left =
    let E = c.args.engine.now in let offers = c.args.offers.now in
    let is : c.args.taken ≡ GoesOn = search rules in
    offered_there before E.lives.items E.lives.items offers.items (set offers.items c.args.at c.offer.result) c.args.at seen
    (omega (arith, c.requires.at, offers.ok.0)) (subst (λ (t : Taken). IsReplaced {S = g.row.S.Denot} t c.args.at before E.lives.items) is left)
    c.index.result.now c.offer.result c.index.ensures c.offer.ensures refl

pub returns-in-Ended-clause-offered : goal.returns-in-Ended-clause-offered
returns-in-Ended-clause-offered g c before seen left =
    let E = c.args.engine.now in let offers = c.args.offers.now in
    let is : c.args.taken ≡ Ended = search rules in
    offered_without before E.lives.items c.move_behind.new.lives.items offers.items c.remove-gone.new.self.items c.args.at seen
    (omega (arith, c.requires.at, offers.ok.0)) (subst (λ (t : Taken). IsReplaced {S = g.row.S.Denot} t c.args.at before E.lives.items) is left)
    c.move_behind.ensures.order c.remove-gone.ensures.items
