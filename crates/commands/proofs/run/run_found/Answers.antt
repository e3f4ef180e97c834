use Rattle.std.proofs.Common.{ℕ, List, Err}
use Rattle.am_base.specs.Cause.{Rose}
use Rattle.ports.specs.Asks.{answers_in, asked_in}
use Rattle.commands.specs.Alone.{counts_of}
use Rattle.commands.specs.Plans.{run_end}
use Rattle.commands.proofs.FilesLemmas.{read_found, unread_found}
use Rattle.commands.proofs.run.run_found.Goals as goal

pub returns-in-Err-clause-found : goal.returns-in-Err-clause-found
returns-in-Err-clause-found g c =
    let counts = counts_of c.args.meter.now (asked_in (g.P.Ports.outside c.args.ports).asked) in
    unread_found (g.F.Shelf.files c.args.shelf.now)
    (λ (name : List ℕ). Rose (g.F.Shelf.faults c.args.shelf.now name) (g.F.Shelf.faults c.load_files.new.shelf name))
    c.args.signs.now c.args.budget c.args.module_name.now c.args.mutants.now c.args.tests.now
    (run_end (answers_in (g.P.Ports.outside c.args.ports).answers) c.args.show) counts counts (Err c.in-Err.stop) (c.in-Err.ensures.err counts)

pub returns-in-Ok-clause-found : goal.returns-in-Ok-clause-found
returns-in-Ok-clause-found g c =
    let files = g.F.Shelf.files c.args.shelf.now in
    let read = c.in-Ok.ensures.read in
    let s = c.in-Ok.subject in
    read_found files (λ (name : List ℕ). Rose (g.F.Shelf.faults c.args.shelf.now name) (g.F.Shelf.faults c.load_files.new.shelf name))
    c.args.signs.now c.args.budget c.args.module_name.now c.args.mutants.now c.args.tests.now
    (run_end (answers_in (g.P.Ports.outside c.args.ports).answers) c.args.show)
    (counts_of c.args.meter.now (asked_in (g.P.Ports.outside c.args.ports).asked))
    (counts_of c.run_wanted.new.meter (asked_in (g.P.Ports.outside c.run_wanted.result.0).asked))
    s.m s.list s.suite read c.run_wanted.result.1 (c.run_wanted.ensures.found files read.all read.list_is)
