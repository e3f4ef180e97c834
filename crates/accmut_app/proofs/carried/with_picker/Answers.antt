use Rattle.std.proofs.Common.{ap}
use Rattle.std.specs.Option.{option_copied}
use Rattle.ports.specs.Asks.{asked_in}
use Rattle.command_words.specs.Words.{files_meant, meant}
use Rattle.command_words.specs.declared.command.Command.TheVariants.{Groups, Load, Reduce, Run}
use Rattle.accmut_app.proofs.FoundAnswers.{of_command}
use Rattle.accmut_app.proofs.carried.with_picker.Goals as goal

pub returns-in-Run-clause-answer : goal.returns-in-Run-clause-answer
returns-in-Run-clause-answer g c =
    let outside = g.P.Ports.outside c.args.ports in
    of_command _ _ outside.signs outside.answers _ _ _ _ _ _ (meant c.args.command)
    (Run (files_meant c.in-Run.files) c.in-Run.budget (option_copied c.in-Run.order) c.in-Run.splits) (ap meant c.in-Run.is) c.run_written.ensures.answer

pub returns-in-Groups-clause-answer : goal.returns-in-Groups-clause-answer
returns-in-Groups-clause-answer g c =
    let outside = g.P.Ports.outside c.args.ports in
    of_command _ _ outside.signs outside.answers _ _ _ _ _ _ (meant c.args.command)
    (Groups (files_meant c.in-Groups.files) c.in-Groups.test c.in-Groups.step c.in-Groups.budget (option_copied c.in-Groups.order)) (ap meant c.in-Groups.is)
    c.groups_written.ensures.answer

pub returns-in-Reduce-clause-answer : goal.returns-in-Reduce-clause-answer
returns-in-Reduce-clause-answer g c =
    let outside = g.P.Ports.outside c.args.ports in
    of_command _ _ outside.signs outside.answers _ _ _ _ _ _ (meant c.args.command)
    (Reduce (files_meant c.in-Reduce.files) c.in-Reduce.budget (option_copied c.in-Reduce.order)) (ap meant c.in-Reduce.is)
    c.run_written-in-Reduce.ensures.answer

pub returns-in-Load-clause-answer : goal.returns-in-Load-clause-answer
returns-in-Load-clause-answer g c =
    let outside = g.P.Ports.outside c.args.ports in
    let faults = g.F.Shelf.faults c.args.shelf.now in
    of_command _ _ outside.signs outside.answers _ _ _ _ _ _ (meant c.args.command) (Load c.in-Load.number) (ap meant c.in-Load.is)
    (c.load_written.ensures.answer (g.F.Shelf.files c.args.shelf.now) faults faults (asked_in outside.asked))
