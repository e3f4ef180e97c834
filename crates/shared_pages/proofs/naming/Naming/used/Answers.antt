use Rattle.std.proofs.Common.{◌+◌, ap, ◌∙◌, arith}
use Rattle.shared_pages.specs.Counts.{Names, different}
use Rattle.shared_pages.proofs.Named.{used_counted}
use Rattle.shared_pages.proofs.naming.Naming.used.Goals as goal

pub returns : goal.returns
returns c =
    let counted = used_counted c.self.inside.entries.items c.self.inside.owners c.self.invariant in
    c.used.ensures ∙ omega (arith, counted) ∙ ap (λ (n : Names). different n.entries + 1) c.self.view_is
