use Rattle.std.proofs.Common.{◌≡◌, ◌+◌, ap, sym, ◌∙◌, arith}
use Rattle.shared_pages.specs.Counts.{Names, different}
use Rattle.shared_pages.proofs.Flat.{different_flat}
use Rattle.shared_pages.proofs.tables.Tables.used.Goals as goal

pub returns : goal.returns
returns c =
    let f = c.self.inside in
    let same = different_flat f.roots f.leaves c.self.invariant in
    let seen = ap (λ (n : Names). different n.entries) c.self.view_is in
    let used = c.used.ensures in
    omega (arith, same, seen, used)
