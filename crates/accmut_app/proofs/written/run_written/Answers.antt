use Rattle.std.proofs.Common.{◌∙◌, List, ℕ, subst}
use Rattle.am_base.specs.Cause.{Rose}
use Rattle.ports.specs.Asks.{answers_in, asked_in}
use Rattle.command_plan.specs.Answer.{Found}
use Rattle.commands.specs.Alone.{counts_of}
use Rattle.commands.specs.Plans.{run_plan}
use Rattle.accmut_app.specs.Commands.{steps_of}
use Rattle.accmut_app.proofs.FoundAnswers.{answered}
use Rattle.accmut_app.proofs.written.run_written.Goals as goal

pub returns-in-Ok-clause-answer : goal.returns-in-Ok-clause-answer
returns-in-Ok-clause-answer g c =
    let outside = g.P.Ports.outside c.args.ports in
    let files = c.args.files in
    let shelf = g.F.Shelf.files c.args.shelf.now in
    let faulty = λ (name : List ℕ). Rose (g.F.Shelf.faults c.args.shelf.now name) (g.F.Shelf.faults c.run_found-ports.new.shelf name) in
    let old = counts_of c.args.meter.now (asked_in outside.asked) in
    let new = counts_of c.run_found-ports.new.meter (asked_in (g.P.Ports.outside c.run_found-ports.result.0).asked) in
    let found = subst (λ budget. Found shelf faulty (run_plan c.as_slice.result.now (answers_in outside.answers) budget
    files.module.now files.mutants.now files.tests.now c.args.show) old new c.run_found-ports.result.1)
    c.budget_or_default.ensures.value c.run_found-ports.ensures.found in
    answered shelf faulty
    (λ signs. run_plan signs (answers_in outside.answers) (steps_of c.args.budget) files.module.now files.mutants.now files.tests.now c.args.show)
    c.as_slice.result.now outside.signs old new (g.K.Sink.written c.args.sink.now) (g.K.Sink.written c.write_found.new.sink)
    (Rose (g.K.Sink.faults c.args.sink.now) (g.K.Sink.faults c.write_found.new.sink)) c.run_found-ports.result.1 c.write_found.result
    (c.as_slice.ensures ∙ c.in-Ok.ensures) found c.write_found.ensures.writes
