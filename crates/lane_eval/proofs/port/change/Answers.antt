use Rattle.std.proofs.Common.{sym}
use Rattle.lane_eval.proofs.Asked.{at_most_as}
use Rattle.lane_eval.proofs.port.change.Goals as goal

pub returns-in-Some-clause-asks_at_most : goal.returns-in-Some-clause-asks_at_most
returns-in-Some-clause-asks_at_most g c = at_most_as _ _ (g.V.View.state c.args.s.now) _ _ (sym c.in-Some.ensures) c.ask.ensures.asks_at_most
