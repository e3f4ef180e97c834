use Rattle.shared_pages.specs.Size.{memory_pages, table_entries}
use Rattle.std.proofs.Common.{◌≡◌, ◌<◌, ◌+◌, ◌*◌, ◌^◌, ◌++◌, ℕ, List, length, get_or, replicate, arith, ap, sym, ◌∙◌, subst}
use Rattle.shared_pages.specs.Counts.{Names}
use Rattle.shared_pages.specs.Tables.{AreTables, names_seen}
use Rattle.shared_pages.proofs.Flat.{length_flat}
use Rattle.shared_pages.proofs.LeafSteps.{more_flat, more_tables, names_same}
use Rattle.shared_pages.proofs.tables.Tables.extend.Goals as goal

pub invariant_of-self : goal.invariant_of-self
invariant_of-self c = subst (λ (r : Names). AreTables r c.self.inside.leaves) (sym c.in_err-extend.ensures.err) c.self.invariant

pub invariant_of-self-2 : goal.invariant_of-self-2
invariant_of-self-2 c =
    let f = c.self.inside in
    let long = length_flat f.roots.entries f.leaves.entries in
    let view = ap (λ (n : Names). length n.entries) c.self.view_is in
    let few = c.requires in
    more_tables f.roots f.leaves c.extend.new.self c.self.invariant (ap (λ (n : Names). n.entries) c.in_ok-extend.ensures.ok)
    (ap (λ (n : Names). n.limit) c.in_ok-extend.ensures.ok) (omega (arith, long, view, few))

pub returns-clause-ok : goal.returns-clause-ok
returns-clause-ok c =
    let f = c.self.inside in
    let now = c.args.self.now in
    names_same (names_seen c.extend.new.self f.leaves) (record { entries = now.entries ++ replicate memory_pages 0; limit = now.limit })
    (more_flat f.roots f.leaves c.extend.new.self c.self.invariant (invariant_of-self-2 c) (ap (λ (n : Names). n.entries) c.in_ok-extend.ensures.ok)
    ∙ ap (λ (n : Names). n.entries ++ replicate memory_pages 0) c.self.view_is)
    (ap (λ (n : Names). n.limit) c.self.view_is)
