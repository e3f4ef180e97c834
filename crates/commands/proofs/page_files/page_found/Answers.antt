use Rattle.std.proofs.Common.{ℕ, List, Err}
use Rattle.am_base.specs.Cause.{Rose}
use Rattle.ports.specs.Asks.{answers_in, asked_in}
use Rattle.commands.specs.Alone.{counts_of}
use Rattle.commands.specs.Page.{page_end}
use Rattle.commands.proofs.PageLemmas.{read_page, unread_page}
use Rattle.commands.proofs.page_files.page_found.Goals as goal

pub returns-in-Err-clause-found : goal.returns-in-Err-clause-found
returns-in-Err-clause-found g c =
    let counts = counts_of c.args.meter.now (asked_in (g.P.Ports.outside c.args.ports).asked) in
    unread_page (g.F.Shelf.files c.args.shelf.now)
    (λ (name : List ℕ). Rose (g.F.Shelf.faults c.args.shelf.now name) (g.F.Shelf.faults c.load_page_files.new.shelf name))
    c.args.signs.now c.args.budget c.args.module_name.now c.args.mutants.now c.args.tests.now
    (page_end (answers_in (g.P.Ports.outside c.args.ports).answers)) counts counts (Err c.in-Err.stop) (c.in-Err.ensures.err counts)

pub returns-in-Ok-clause-found : goal.returns-in-Ok-clause-found
returns-in-Ok-clause-found g c =
    let files = g.F.Shelf.files c.args.shelf.now in
    let read = c.in-Ok.ensures.read in
    let s = c.in-Ok.files in
    read_page files (λ (name : List ℕ). Rose (g.F.Shelf.faults c.args.shelf.now name) (g.F.Shelf.faults c.load_page_files.new.shelf name))
    c.args.signs.now c.args.budget c.args.module_name.now c.args.mutants.now c.args.tests.now
    (page_end (answers_in (g.P.Ports.outside c.args.ports).answers))
    (counts_of c.args.meter.now (asked_in (g.P.Ports.outside c.args.ports).asked))
    (counts_of c.page_wanted.new.meter (asked_in (g.P.Ports.outside c.page_wanted.result.0).asked))
    s.m s.listing s.suite read c.page_wanted.result.1 (c.page_wanted.ensures.found files read.full read.list_is read.texts_are)
