use Rattle.shared_pages.specs.Size.{table_entries}
use Rattle.std.proofs.Common.{◌≡◌, ◌<◌, ◌+◌, ◌*◌, ◌/◌, ◌%◌, ℕ, length, get_or, arith, ap, sym, ◌∙◌}
use Rattle.shared_pages.specs.Counts.{Names}
use Rattle.shared_pages.proofs.Flat.{flat_any, in_leaves, in_roots}
use Rattle.shared_pages.proofs.tables.Tables.entry.Goals as goal

pub entry-leaf-requires : goal.entry-leaf-requires
entry-leaf-requires c = in_roots c.self.inside.roots c.self.inside.leaves c.args.self.now c.args.at c.self.view_is c.requires

pub returns-clause-value : goal.returns-clause-value
returns-clause-value c =
    let f = c.self.inside in
    let at = c.args.at in
    c.entry.ensures.value
    ∙ ap (λ (l : ℕ). get_or f.leaves.entries (l * table_entries + at % table_entries) 0) c.entry-leaf.ensures.value
    ∙ sym (flat_any f.roots f.leaves at c.self.invariant) ∙ ap (λ (n : Names). get_or n.entries at 0) c.self.view_is
