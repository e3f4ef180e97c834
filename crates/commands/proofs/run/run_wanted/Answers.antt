use Rattle.std.proofs.Common.{◌≡◌, ℕ, List, Ok, subst, sym}
use Rattle.std.proofs.lemmas.Result.{IfOk-at_ok}
use Rattle.ports.specs.Asks.{answers_in, asked_in}
use Rattle.command_plan.specs.Answer.{Found}
use Rattle.commands.specs.Alone.{counts_of}
use Rattle.commands.specs.Plans.{run_end}
use Rattle.commands.proofs.RunLemmas.{report_found, no_report}
use Rattle.commands.proofs.run.run_wanted.Goals as goal

pub returns-in-Ok-clause-found : goal.returns-in-Ok-clause-found
returns-in-Ok-clause-found g c files all list =
    let s = c.args.s.now in
    let answers = answers_in (g.P.Ports.outside c.args.ports).answers in
    let before = (g.P.Ports.outside c.args.ports).asked in
    let after = (g.P.Ports.outside c.report_of-ports.result.0).asked in
    let text = c.in-Ok.text.items in
    let found = report_found files answers c.args.show s.m all s.suite s.list list c.args.meter.now c.report_of-ports.new.meter before after text
    (IfOk-at_ok _ c.in-Ok.is c.report_of-ports.ensures.text) (IfOk-at_ok _ c.in-Ok.is c.report_of-ports.ensures.meter)
    (IfOk-at_ok _ c.in-Ok.is c.report_of-ports.ensures.asks) in
    subst (λ t. Found files (λ name. ⊥) (run_end answers c.args.show s.m all s.suite) (counts_of c.args.meter.now (asked_in before))
    (counts_of c.report_of-ports.new.meter (asked_in after)) (Ok t)) (sym c.from_vec.ensures) found

pub returns-in-Err-clause-found : goal.returns-in-Err-clause-found
returns-in-Err-clause-found g c files all list =
    let s = c.args.s.now in
    no_report files (answers_in (g.P.Ports.outside c.args.ports).answers) c.args.show s.m all s.suite s.list list c.args.meter.now
    c.report_of-ports.new.meter (g.P.Ports.outside c.args.ports).asked (g.P.Ports.outside c.report_of-ports.result.0).asked
    c.report_of-ports.ensures.meter_within c.report_of-ports.ensures.asks_at_most
