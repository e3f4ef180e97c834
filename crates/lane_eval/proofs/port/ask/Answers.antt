use Rattle.std.proofs.Common.{sym, ◌∙◌}
use Rattle.lane_eval.proofs.Asked.{asked_ports}
use Rattle.lane_eval.proofs.port.ask.Goals as goal

pub returns-clause-asks : goal.returns-clause-asks
returns-clause-asks g c = asked_ports _ _ c.args.ports.now c.ask_port-answer.new.ports c.args.code.now (g.V.View.state c.args.s.now) c.args.p c.args.args.now c.in-Some.words
    c.requires.can c.requires.signs (sym c.in_ok-words.ensures ∙ c.in-Some.is) c.ask_port-answer.ensures.asked
