use Rattle.std.proofs.Common.{arith, ap}
use Rattle.shared_pages.specs.Store.{used_pages}
use Rattle.shared_pages.proofs.Views.{used_seen}
use Rattle.shared_pages.proofs.store.PageStore.peak.Goals as goal

pub returns-clause-most : goal.returns-clause-most
returns-clause-most c =
    let f = c.self.inside in
    let used = used_seen f.slots f.tables f.bytes.items f.peak c.self.invariant in
    let is = ap used_pages c.self.view_is in
    let most = c.self.invariant.most in
    omega (arith, used, is, most)
