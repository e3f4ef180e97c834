use Rattle.commands.proofs.FilesLemmas.{no_mutants, no_tests}
use Rattle.commands.proofs.load.load_files.Goals as goal

pub returns-in-Err-load_mutants-clause-err : goal.returns-in-Err-load_mutants-clause-err
returns-in-Err-load_mutants-clause-err g c counts =
    let first = c.in-Ok-load_module.ensures in
    no_mutants c.args.signs.now c.args.budget c.args.module_name.now c.args.mutants.now c.args.tests.now counts (g.F.Shelf.files c.args.shelf.now)
    (g.F.Shelf.files c.load_module.new.shelf) (g.F.Shelf.faults c.args.shelf.now) (g.F.Shelf.faults c.load_module.new.shelf)
    (g.F.Shelf.faults c.load_mutants.new.shelf) c.in-Ok-load_module.m c.in-Err-load_mutants.stop first.kept first.counts first.ok
    c.in-Err-load_mutants.ensures.err

pub returns-clause-err : goal.returns-clause-err
returns-clause-err g c counts =
    let first = c.in-Ok-load_module.ensures in
    let second = c.in-Ok-load_mutants.ensures in
    no_tests c.args.signs.now c.args.budget c.args.module_name.now c.args.mutants.now c.args.tests.now counts (g.F.Shelf.files c.args.shelf.now)
    (g.F.Shelf.files c.load_module.new.shelf) (g.F.Shelf.files c.load_mutants.new.shelf) (g.F.Shelf.faults c.args.shelf.now)
    (g.F.Shelf.faults c.load_module.new.shelf) (g.F.Shelf.faults c.load_mutants.new.shelf) (g.F.Shelf.faults c.load_tests.new.shelf)
    c.in-Ok-load_module.m second.ok.0 c.in-Err-load_tests.stop first.kept second.kept first.counts second.counts first.ok second.ok.1
    c.in-Err-load_tests.ensures.err
