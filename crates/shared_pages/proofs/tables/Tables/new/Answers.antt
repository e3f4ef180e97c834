use Rattle.shared_pages.specs.Size.{memory_pages, table_entries}
use Rattle.std.proofs.Common.{◌≡◌, ◌≢◌, ◌<◌, ◌≤◌, ◌+◌, ◌*◌, ◌/◌, ◌%◌, ◌++◌, [], ℕ, List, Bool, true, false, length, get_or, set, replicate, arith, ap, sym, ◌∙◌, subst, refl}
use Rattle.shared_pages.specs.Counts.{Names}
use Rattle.shared_pages.specs.Tables.{names_seen}
use Rattle.shared_pages.proofs.Flat.{flat_none}
use Rattle.shared_pages.proofs.LeafSteps.{names_same, new_tables}
use Rattle.shared_pages.proofs.tables.Tables.new.Goals as goal

pub invariant_of-result : goal.invariant_of-result
invariant_of-result c =
    new_tables c.in_ok-roots.roots c.extend.new.self (ap (λ (n : Names). n.entries) c.in_ok-roots.ensures)
    (ap (λ (n : Names). n.limit) c.in_ok-roots.ensures)
    (ap (λ (n : Names). n.entries) c.in_ok-extend.ensures.ok ∙ ap (λ (n : Names). n.entries ++ replicate table_entries 0) c.in_ok-leaves.ensures)

pub returns : goal.returns
returns c =
    names_same (names_seen c.in_ok-roots.roots c.extend.new.self) (record { entries = []; limit = 1 })
    (flat_none c.in_ok-roots.roots.entries c.extend.new.self.entries (ap (λ (n : Names). n.entries) c.in_ok-roots.ensures))
    (ap (λ (n : Names). n.limit) c.in_ok-extend.ensures.ok ∙ ap (λ (n : Names). n.limit) c.in_ok-leaves.ensures)
