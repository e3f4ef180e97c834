use Rattle.std.proofs.Common.{◌∙◌, List, ℕ}
use Rattle.am_base.specs.Cause.{Rose}
use Rattle.ports.specs.Asks.{asked_in}
use Rattle.commands.specs.Alone.{counts_of}
use Rattle.commands.specs.Number.{number_plan}
use Rattle.accmut_app.proofs.FoundAnswers.{answered}
use Rattle.accmut_app.proofs.view_written.number_written.Goals as goal

pub returns-in-Ok-clause-answer : goal.returns-in-Ok-clause-answer
returns-in-Ok-clause-answer g c steps =
    let outside = g.P.Ports.outside c.args.ports.now in
    let counts = counts_of steps (asked_in outside.asked) in
    answered (g.F.Shelf.files c.args.shelf.now)
    (λ (name : List ℕ). Rose (g.F.Shelf.faults c.args.shelf.now name) (g.F.Shelf.faults c.number_found-found.new.shelf name))
    (λ signs. number_plan signs c.args.name.now) c.as_slice.result.now outside.signs counts counts
    (g.K.Sink.written c.args.sink.now) (g.K.Sink.written c.write_found.new.sink)
    (Rose (g.K.Sink.faults c.args.sink.now) (g.K.Sink.faults c.write_found.new.sink)) c.number_found-found.result c.write_found.result
    (c.as_slice.ensures ∙ c.in-Ok.ensures) (c.number_found-found.ensures.found counts) c.write_found.ensures.writes
