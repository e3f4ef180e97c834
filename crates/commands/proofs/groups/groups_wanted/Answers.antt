use Rattle.std.proofs.Common.{◌≡◌, ℕ, List, Err, subst, sym}
use Rattle.std.proofs.lemmas.Result.{IfOk-at_ok}
use Rattle.code_form.specs.Fit.{FitsCase}
use Rattle.ports.specs.Asks.{answers_in, asked_in}
use Rattle.test_suite.specs.declared.suite.Test.{Test}
use Rattle.command_plan.specs.Answer.{Found}
use Rattle.commands.specs.Alone.{counts_of}
use Rattle.commands.specs.Plans.{groups_end}
use Rattle.commands.proofs.Listed.{numbered_get}
use Rattle.commands.proofs.GroupsLemmas.{no_test, groups_found, no_groups}
use Rattle.commands.proofs.groups.groups_wanted.Goals as goal

pub returns-in-None-clause-found : goal.returns-in-None-clause-found
returns-in-None-clause-found g c files all list =
    let answers = answers_in (g.P.Ports.outside c.args.ports).answers in
    let counts = counts_of c.args.meter.now (asked_in (g.P.Ports.outside c.args.ports).asked) in
    let s = c.args.s.now in
    subst (λ stop. Found files (λ name. ⊥) (groups_end answers c.args.point s.m all s.suite) counts counts (Err stop)) (sym c.refusal.ensures)
    (no_test files answers c.args.point s.m all s.suite counts c.no_test_line-line.result (sym c.in-None.ensures) c.no_test_line-line.ensures)

pub text_at-ports-requires-clause-case : goal.text_at-ports-requires-clause-case
text_at-ports-requires-clause-case g c =
    numbered_get (λ (t : Test). FitsCase c.args.s.now.m.code t.case) c.args.s.now.suite.tests c.args.point.test c.in-Some.t.now
    c.requires.suite.cases (sym c.in-Some.ensures)

pub returns-in-Ok-clause-found : goal.returns-in-Ok-clause-found
returns-in-Ok-clause-found g c files all list =
    let s = c.args.s.now in
    let by = c.text_at-ports.ensures in
    let text = IfOk-at_ok _ c.in-Ok.is by.text in
    groups_found files (answers_in (g.P.Ports.outside c.args.ports).answers) c.args.point s.m all s.suite c.in-Some.t.now s.list list
    (sym c.in-Some.ensures) c.args.meter.now c.text_at-ports.new.meter (g.P.Ports.outside c.args.ports).asked
    (g.P.Ports.outside c.text_at-ports.result.0).asked c.in-Ok.text text.0 text.1 text.2 (IfOk-at_ok _ c.in-Ok.is by.meter)
    (IfOk-at_ok _ c.in-Ok.is by.asks)

pub returns-in-Err-clause-found : goal.returns-in-Err-clause-found
returns-in-Err-clause-found g c files all list =
    let s = c.args.s.now in
    let by = c.text_at-ports.ensures in
    no_groups files (answers_in (g.P.Ports.outside c.args.ports).answers) c.args.point s.m all s.suite c.in-Some.t.now s.list list
    (sym c.in-Some.ensures) c.args.meter.now c.text_at-ports.new.meter (g.P.Ports.outside c.args.ports).asked
    (g.P.Ports.outside c.text_at-ports.result.0).asked by.meter_within by.asks_at_most
