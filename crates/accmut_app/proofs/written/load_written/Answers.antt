use Rattle.std.proofs.Common.{List, ℕ}
use Rattle.am_base.specs.Cause.{Rose}
use Rattle.command_plan.proofs.Answers.{answer}
use Rattle.commands.specs.Alone.{counts_of}
use Rattle.commands.specs.Plans.{load_plan}
use Rattle.accmut_app.proofs.written.load_written.Goals as goal

pub returns-clause-answer : goal.returns-clause-answer
returns-clause-answer g c files before after asks =
    answer files (λ (name : List ℕ). Rose (before name) (after name)) (load_plan c.args.number) (counts_of c.args.meter.now asks)
    (counts_of c.load_found-found.new.meter asks) (g.K.Sink.written c.args.sink.now) (g.K.Sink.written c.write_found.new.sink)
    (Rose (g.K.Sink.faults c.args.sink.now) (g.K.Sink.faults c.write_found.new.sink)) c.load_found-found.result c.write_found.result
    (c.load_found-found.ensures.found files before after asks) c.write_found.ensures.writes
