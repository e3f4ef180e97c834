use Rattle.std.proofs.Common.{ℕ, List, Err}
use Rattle.am_base.specs.Cause.{Rose}
use Rattle.ports.specs.Asks.{answers_in, asked_in}
use Rattle.commands.specs.Alone.{counts_of}
use Rattle.commands.specs.Plans.{alone_end}
use Rattle.commands.proofs.FilesLemmas.{read_found, unread_found}
use Rattle.commands.proofs.alone.alone_found.Goals as goal

pub returns-in-Err-clause-found : goal.returns-in-Err-clause-found
returns-in-Err-clause-found g c steps =
    let counts = counts_of steps (asked_in (g.P.Ports.outside c.args.ports.now).asked) in
    unread_found (g.F.Shelf.files c.args.shelf.now)
    (λ (name : List ℕ). Rose (g.F.Shelf.faults c.args.shelf.now name) (g.F.Shelf.faults c.load_files.new.shelf name))
    c.args.signs.now c.args.budget c.args.module_name.now c.args.mutants.now c.args.tests.now
    (alone_end (answers_in (g.P.Ports.outside c.args.ports.now).answers) c.args.wanted) counts counts (Err c.in-Err.stop) (c.in-Err.ensures.err counts)

pub returns-in-Ok-clause-found : goal.returns-in-Ok-clause-found
returns-in-Ok-clause-found g c steps =
    let files = g.F.Shelf.files c.args.shelf.now in
    let read = c.in-Ok.ensures.read in
    let subject = c.in-Ok.subject in
    read_found files (λ (name : List ℕ). Rose (g.F.Shelf.faults c.args.shelf.now name) (g.F.Shelf.faults c.load_files.new.shelf name))
    c.args.signs.now c.args.budget c.args.module_name.now c.args.mutants.now c.args.tests.now
    (alone_end (answers_in (g.P.Ports.outside c.args.ports.now).answers) c.args.wanted)
    (counts_of steps (asked_in (g.P.Ports.outside c.args.ports.now).asked)) (counts_of steps (asked_in (g.P.Ports.outside c.run_wanted.new.ports).asked))
    subject.m subject.list subject.suite read c.run_wanted.result (c.run_wanted.ensures.found files read.all steps read.list_is)
