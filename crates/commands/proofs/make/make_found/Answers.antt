use Rattle.std.proofs.Common.{◌≡◌, ℕ, List, ◌∙◌}
use Rattle.am_base.specs.Cause.{Rose}
use Rattle.commands.proofs.MakeLemmas.{list_found}
use Rattle.commands.proofs.make.make_found.Goals as goal

pub returns-in-Ok-make-clause-found : goal.returns-in-Ok-make-clause-found
returns-in-Ok-make-clause-found g c counts =
    list_found (g.F.Shelf.files c.args.shelf.now)
    (λ (name : List ℕ). Rose (g.F.Shelf.faults c.args.shelf.now name) (g.F.Shelf.faults c.load_module.new.shelf name)) c.args.signs.now c.args.name.now
    counts c.in-Ok-load_module.m c.in-Ok-load_module.ensures.ok c.from_vec.result (c.from_vec.ensures ∙ c.in-Ok-make.ensures.list)
    c.in-Ok-make.ensures.few
