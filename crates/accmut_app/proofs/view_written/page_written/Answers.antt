use Rattle.std.proofs.Common.{◌∙◌, List, ℕ}
use Rattle.am_base.specs.Cause.{Rose}
use Rattle.am_base.specs.declared.limits.TheConstants.{DEFAULT_BUDGET}
use Rattle.ports.specs.Asks.{answers_in, asked_in}
use Rattle.commands.specs.Alone.{counts_of}
use Rattle.commands.specs.Page.{page_plan}
use Rattle.accmut_app.proofs.FoundAnswers.{answered}
use Rattle.accmut_app.proofs.view_written.page_written.Goals as goal

pub returns-in-Ok-clause-answer : goal.returns-in-Ok-clause-answer
returns-in-Ok-clause-answer g c =
    let outside = g.P.Ports.outside c.args.ports in
    let files = c.args.files in
    let shelf = g.F.Shelf.files c.args.shelf.now in
    let faulty = λ (name : List ℕ). Rose (g.F.Shelf.faults c.args.shelf.now name) (g.F.Shelf.faults c.page_found-ports.new.shelf name) in
    let old = counts_of c.args.meter.now (asked_in outside.asked) in
    let new = counts_of c.page_found-ports.new.meter (asked_in (g.P.Ports.outside c.page_found-ports.result.0).asked) in
    answered shelf faulty
    (λ signs. page_plan signs (answers_in outside.answers) DEFAULT_BUDGET files.module.now files.mutants.now files.tests.now)
    c.as_slice.result.now outside.signs old new (g.K.Sink.written c.args.sink.now) (g.K.Sink.written c.write_found.new.sink)
    (Rose (g.K.Sink.faults c.args.sink.now) (g.K.Sink.faults c.write_found.new.sink)) c.page_found-ports.result.1 c.write_found.result
    (c.as_slice.ensures ∙ c.in-Ok.ensures) c.page_found-ports.ensures.found c.write_found.ensures.writes
