use Rattle.command_files.proofs.FullLemmas.{full_found}
use Rattle.command_files.proofs.full.load_listing.Goals as goal

pub returns-in-Ok-mutants_of-clause-ok : goal.returns-in-Ok-mutants_of-clause-ok
returns-in-Ok-mutants_of-clause-ok g c =
    let a = c.in-Ok-mutants_of.ensures.accepted in
    full_found (g.F.Shelf.files c.args.shelf.now) c.args.name.now _ c.args.signs.now c.args.m.now c.in-Ok-mutants_of.list a.0 c.in-Ok.ensures.ok a.1 a.2
    c.with_texts.result c.with_texts.ensures.list c.with_texts.ensures.texts
