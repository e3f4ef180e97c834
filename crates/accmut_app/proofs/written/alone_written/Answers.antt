use Rattle.std.proofs.Common.{◌∙◌, List, ℕ, subst}
use Rattle.am_base.specs.Cause.{Rose}
use Rattle.ports.specs.Asks.{answers_in, asked_in}
use Rattle.command_plan.specs.Answer.{Found}
use Rattle.commands.specs.Alone.{counts_of}
use Rattle.commands.specs.Plans.{alone_plan}
use Rattle.accmut_app.specs.Commands.{steps_of}
use Rattle.accmut_app.proofs.FoundAnswers.{answered}
use Rattle.accmut_app.proofs.written.alone_written.Goals as goal

pub returns-in-Ok-clause-answer : goal.returns-in-Ok-clause-answer
returns-in-Ok-clause-answer g c steps =
    let outside = g.P.Ports.outside c.args.ports.now in
    let files = c.args.files in
    let shelf = g.F.Shelf.files c.args.shelf.now in
    let faulty = λ (name : List ℕ). Rose (g.F.Shelf.faults c.args.shelf.now name) (g.F.Shelf.faults c.alone_found-found.new.shelf name) in
    let old = counts_of steps (asked_in outside.asked) in
    let new = counts_of steps (asked_in (g.P.Ports.outside c.alone_found-found.new.ports).asked) in
    let found = subst (λ budget. Found shelf faulty (alone_plan c.as_slice.result.now (answers_in outside.answers) budget
    files.module.now files.mutants.now files.tests.now c.args.wanted) old new c.alone_found-found.result)
    c.budget_or_default.ensures.value (c.alone_found-found.ensures.found steps) in
    answered shelf faulty
    (λ signs. alone_plan signs (answers_in outside.answers) (steps_of c.args.budget) files.module.now files.mutants.now files.tests.now c.args.wanted)
    c.as_slice.result.now outside.signs old new (g.K.Sink.written c.args.sink.now) (g.K.Sink.written c.write_found.new.sink)
    (Rose (g.K.Sink.faults c.args.sink.now) (g.K.Sink.faults c.write_found.new.sink)) c.alone_found-found.result c.write_found.result
    (c.as_slice.ensures ∙ c.in-Ok.ensures) found c.write_found.ensures.writes
