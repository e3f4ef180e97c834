use Rattle.std.proofs.Common.{◌≡◌, ◌+◌, ◌*◌, length, ap, sym, ◌∙◌, arith}
use Rattle.shared_pages.specs.Counts.{Names}
use Rattle.shared_pages.proofs.Flat.{length_flat}
use Rattle.shared_pages.proofs.tables.Tables.len.Goals as goal

pub returns : goal.returns
returns c =
    let f = c.self.inside in
    let long = length_flat f.roots.entries f.leaves.entries in
    let seen = ap (λ (n : Names). length n.entries) c.self.view_is in
    let len = c.len.ensures in
    omega (arith, long, seen, len)
