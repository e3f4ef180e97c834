use Rattle.std.proofs.Common.{◌≡◌, ◌+◌, ℕ, arith, ap, ◌∙◌}
use Rattle.shared_pages.specs.Counts.{different}
use Rattle.shared_pages.specs.Store.{seen, used_pages}
use Rattle.shared_pages.proofs.Views.{used_seen}
use Rattle.shared_pages.proofs.store.PageStore.set_peak.Goals as goal

pub invariant_of-self : goal.invariant_of-self
invariant_of-self c =
    let f = c.self.inside in
    let store = c.self.invariant in
    let used = used_seen f.slots f.tables f.bytes.items f.peak store in
    let is = ap used_pages c.self.view_is in
    let enough = c.requires in
    record {
      tables = store.tables;
      few = store.few;
      pages = store.pages;
      room = store.room;
      zero = store.zero;
      dead = store.dead;
      once = store.once;
      apart = store.apart;
      most = omega (arith, used, is, enough);
    }
