use Rattle.std.proofs.Common.{sym, ap, ◌∙◌}
use Rattle.ir_call_rules.proofs.PortNumbers.{port_or_none, port-found}
use Rattle.ir_call_rules.proofs.ports.Ports.port_of.Goals as goal

pub returns-in-None : goal.returns-in-None
returns-in-None c = ap port_or_none (sym c.in-None.is ∙ c.number_of.ensures) ∙ port-found 0 c.args.self.now c.args.name

pub returns : goal.returns
returns c = ap port_or_none (sym c.in-Some.is ∙ c.number_of.ensures) ∙ port-found 0 c.args.self.now c.args.name
