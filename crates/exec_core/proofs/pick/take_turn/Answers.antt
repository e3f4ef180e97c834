use Rattle.std.proofs.Common.{length, ap, arith, subst}
use Rattle.std.proofs.lemmas.List.{length-map}
use Rattle.exec_core.specs.Picked.{offer_of}
use Rattle.exec_core.proofs.pick.take_turn.Goals as goal

pub ask-at-requires : goal.ask-at-requires
ask-at-requires g c =
    let E = c.args.engine.now in let n = length-map E.lives.items offer_of in
    omega (arith, c.requires.some, E.lives.ok.0, ap length c.requires.offered.are, n)

pub returns-in-Err-clause-refused : goal.returns-in-Err-clause-refused
returns-in-Err-clause-refused g c start = record { at = c.ask-at.result; refused = c.in-Err.ensures.refused start }

pub returns-in-Ok-clause-took : goal.returns-in-Ok-clause-took
returns-in-Ok-clause-took g c start = record {
  at = c.ask-at.result;
  picked = subst (λ offers. (g.dyn-1.0.entry c.args.picker.now.vtable).1.picks c.args.picker.now.value offers c.ask-at.result) c.requires.offered.are
      c.ask-at.ensures.picked;
  turned = c.in-Ok.ensures.turned start;
}
