use Rattle.std.proofs.Common.{arith, ap, ◌∙◌}
use Rattle.shared_pages.specs.Store.{used_pages}
use Rattle.shared_pages.proofs.Views.{used_seen}
use Rattle.shared_pages.proofs.store.PageStore.used.Goals as goal

pub returns : goal.returns
returns c =
    let f = c.self.inside in
    let is = used_seen f.slots f.tables f.bytes.items f.peak c.self.invariant in
    c.used.ensures ∙ omega (arith, is) ∙ ap used_pages c.self.view_is
