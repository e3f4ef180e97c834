use Rattle.std.proofs.Common.{◌≡◌, ◌<◌, ℕ, true, take, get_or}
use Rattle.shared_pages.specs.Store.{IsReserved, owns}
use Rattle.shared_pages.proofs.store.PageStore.reserve.Given as goal

abbrev pub invariant-addresses : goal.invariant-addresses
invariant-addresses l = record {
  own : (k : ℕ) → k < l.address-index → owns l.self l.id (get_or l.at k 0) ≡ true;
  reserved : IsReserved l.fn.self l.self l.id (take l.address-index l.at);
}
