use Rattle.commands.proofs.PageLemmas.{no_list_page, no_tests_page}
use Rattle.commands.proofs.page_files.load_page_files.Goals as goal

pub returns-in-Err-load_listing-clause-err : goal.returns-in-Err-load_listing-clause-err
returns-in-Err-load_listing-clause-err g c counts =
    let first = c.in-Ok-load_module.ensures in
    no_list_page c.args.signs.now c.args.budget c.args.module_name.now c.args.mutants.now c.args.tests.now counts (g.F.Shelf.files c.args.shelf.now)
    (g.F.Shelf.files c.load_module.new.shelf) (g.F.Shelf.faults c.args.shelf.now) (g.F.Shelf.faults c.load_module.new.shelf)
    (g.F.Shelf.faults c.load_listing.new.shelf) c.in-Ok-load_module.m c.in-Err-load_listing.stop first.kept first.counts first.ok
    c.in-Err-load_listing.ensures.err

pub returns-clause-err : goal.returns-clause-err
returns-clause-err g c counts =
    let first = c.in-Ok-load_module.ensures in
    let second = c.in-Ok-load_listing.ensures in
    no_tests_page c.args.signs.now c.args.budget c.args.module_name.now c.args.mutants.now c.args.tests.now counts (g.F.Shelf.files c.args.shelf.now)
    (g.F.Shelf.files c.load_module.new.shelf) (g.F.Shelf.files c.load_listing.new.shelf) (g.F.Shelf.faults c.args.shelf.now)
    (g.F.Shelf.faults c.load_module.new.shelf) (g.F.Shelf.faults c.load_listing.new.shelf) (g.F.Shelf.faults c.load_tests.new.shelf)
    c.in-Ok-load_module.m second.ok.0 c.in-Err-load_tests.stop first.kept second.kept first.counts second.counts first.ok second.ok.1
    c.in-Err-load_tests.ensures.err
