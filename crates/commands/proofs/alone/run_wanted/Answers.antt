use Rattle.std.proofs.Common.{◌≡◌, ◌<◌, ◌≤◌, ℕ, ◌+◌, length, None, Some, Err, subst, sym, arith}
use Rattle.code_form.specs.Fit.{FitsCase}
use Rattle.mutant_records.specs.Lists.{last_mutant}
use Rattle.test_suite.specs.declared.suite.Test.{Test}
use Rattle.ports.specs.Asks.{answers_in, asked_in}
use Rattle.command_plan.specs.Answer.{Found}
use Rattle.commands.specs.Alone.{counts_of, test_numbered}
use Rattle.commands.specs.Plans.{alone_end}
use Rattle.commands.proofs.Listed.{list_mutants, numbered_get}
use Rattle.commands.proofs.AloneLemmas.{mutant_missing, test_missing, text_found, none_found}
use Rattle.commands.proofs.alone.run_wanted.Goals as goal

pub returns-then-wanted-from-clause-found : goal.returns-then-wanted-from-clause-found
returns-then-wanted-from-clause-found g c files all steps list =
    let answers = answers_in (g.P.Ports.outside c.args.ports.now).answers in
    let counts = counts_of steps (asked_in (g.P.Ports.outside c.args.ports.now).asked) in
    let count = list_mutants c.args.s.now.m.code all c.args.s.now.list list in
    let above = c.if-wanted-from.true in
    let from = c.from.ensures in
    let mutants = c.mutants.ensures.mutants in
    let past : last_mutant all < c.args.wanted.mutant = omega (arith, count, above, from, mutants) in
    subst (λ s. Found files (λ name. ⊥) (alone_end answers c.args.wanted c.args.s.now.m all c.args.s.now.suite) counts counts (Err s))
    (sym c.refusal.ensures)
    (mutant_missing files answers c.args.wanted.mutant c.args.wanted.test c.args.s.now.m all c.args.s.now.suite counts c.no_mutant_line-line.result past
    c.no_mutant_line-line.ensures)

pub text_of-requires-clause-case : goal.text_of-requires-clause-case
text_of-requires-clause-case g c =
    numbered_get (λ (t : Test). FitsCase c.args.s.now.m.code t.case) c.args.s.now.suite.tests c.args.wanted.test c.in-Some.t.now c.requires.suite.cases
    (sym c.in-Some.ensures)

pub returns-in-None-clause-found : goal.returns-in-None-clause-found
returns-in-None-clause-found g c files all steps list =
    let answers = answers_in (g.P.Ports.outside c.args.ports.now).answers in
    let counts = counts_of steps (asked_in (g.P.Ports.outside c.args.ports.now).asked) in
    let count = list_mutants c.args.s.now.m.code all c.args.s.now.list list in
    let below = c.if-wanted-from.false in
    let from = c.from.ensures in
    let mutants = c.mutants.ensures.mutants in
    let within : c.args.wanted.mutant ≤ last_mutant all = omega (arith, count, below, from, mutants) in
    subst (λ s. Found files (λ name. ⊥) (alone_end answers c.args.wanted c.args.s.now.m all c.args.s.now.suite) counts counts (Err s))
    (sym c.refusal-in-None.ensures)
    (test_missing files answers c.args.wanted.mutant c.args.wanted.test c.args.s.now.m all c.args.s.now.suite counts c.no_test_line-line.result within
    (sym c.in-None.ensures) c.no_test_line-line.ensures)

pub returns-in-Ok-clause-found : goal.returns-in-Ok-clause-found
returns-in-Ok-clause-found g c files all steps list =
    let answers = answers_in (g.P.Ports.outside c.args.ports.now).answers in
    let count = list_mutants c.args.s.now.m.code all c.args.s.now.list list in
    let below = c.if-wanted-from.false in
    let from = c.from.ensures in
    let mutants = c.mutants.ensures.mutants in
    let within : c.args.wanted.mutant ≤ last_mutant all = omega (arith, count, below, from, mutants) in
    text_found files answers c.args.wanted.mutant c.args.wanted.test c.args.s.now.m all c.args.s.now.suite c.in-Some.t.now c.args.s.now.list list steps
    (g.P.Ports.outside c.args.ports.now).asked (g.P.Ports.outside c.text_of.new.ports).asked within (sym c.in-Some.ensures) c.in-Ok.text
    c.in-Ok.ensures.text c.in-Ok.ensures.asks

pub returns-in-Err-clause-found : goal.returns-in-Err-clause-found
returns-in-Err-clause-found g c files all steps list =
    let answers = answers_in (g.P.Ports.outside c.args.ports.now).answers in
    let count = list_mutants c.args.s.now.m.code all c.args.s.now.list list in
    let below = c.if-wanted-from.false in
    let from = c.from.ensures in
    let mutants = c.mutants.ensures.mutants in
    let within : c.args.wanted.mutant ≤ last_mutant all = omega (arith, count, below, from, mutants) in
    none_found files answers c.args.wanted.mutant c.args.wanted.test c.args.s.now.m all c.args.s.now.suite c.in-Some.t.now c.args.s.now.list list steps
    (g.P.Ports.outside c.args.ports.now).asked (g.P.Ports.outside c.text_of.new.ports).asked within (sym c.in-Some.ensures) c.in-Err.ensures.asks_at_most
