use Rattle.std.proofs.Common.{ap}
use Rattle.command_words.specs.Words.{files_meant, meant}
use Rattle.command_words.specs.declared.command.Command.TheVariants.{Alone, Check, Make}
use Rattle.accmut_app.proofs.FoundAnswers.{of_command}
use Rattle.accmut_app.proofs.carried.without_picker.Goals as goal

pub returns-in-Check-clause-answer : goal.returns-in-Check-clause-answer
returns-in-Check-clause-answer g c steps =
    let outside = g.P.Ports.outside c.args.ports.now in
    of_command _ _ outside.signs outside.answers _ _ _ _ _ _ (meant c.args.command) (Check c.in-Check.name.now) (ap meant c.in-Check.is)
    (c.check_written.ensures.answer steps)

pub returns-in-Make-clause-answer : goal.returns-in-Make-clause-answer
returns-in-Make-clause-answer g c steps =
    let outside = g.P.Ports.outside c.args.ports.now in
    of_command _ _ outside.signs outside.answers _ _ _ _ _ _ (meant c.args.command) (Make c.in-Make.name.now) (ap meant c.in-Make.is)
    (c.make_written.ensures.answer steps)

pub returns-in-Alone-clause-answer : goal.returns-in-Alone-clause-answer
returns-in-Alone-clause-answer g c steps =
    let outside = g.P.Ports.outside c.args.ports.now in
    of_command _ _ outside.signs outside.answers _ _ _ _ _ _ (meant c.args.command)
    (Alone (files_meant c.in-Alone.files) c.in-Alone.mutant c.in-Alone.test c.in-Alone.budget)
    (ap meant c.in-Alone.is) (c.alone_written.ensures.answer steps)
