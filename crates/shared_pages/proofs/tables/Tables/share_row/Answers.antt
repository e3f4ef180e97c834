use Rattle.shared_pages.specs.Size.{memory_pages, table_entries}
use Rattle.std.proofs.Common.{◌≡◌, ◌≢◌, ◌<◌, ◌≤◌, ◌+◌, ◌*◌, ◌/◌, ◌%◌, ◌++◌, [], ℕ, List, Bool, true, false, length, get_or, set, replicate, arith, ap, sym, ◌∙◌, subst, refl}
use Rattle.shared_pages.specs.Counts.{Names, different}
use Rattle.shared_pages.specs.Rows.{IsCopied}
use Rattle.shared_pages.specs.Tables.{names_seen}
use Rattle.shared_pages.proofs.Flat.{different_flat, row_of_roots}
use Rattle.shared_pages.proofs.LeafSteps.{shared_copied, shared_tables}
use Rattle.shared_pages.proofs.tables.Tables.share_row.Goals as goal

pub copy_table-requires-clause-from : goal.copy_table-requires-clause-from
copy_table-requires-clause-from c = row_of_roots c.self.inside.roots c.self.inside.leaves c.args.self.now c.args.m c.self.view_is c.requires.from

pub copy_table-requires-clause-to : goal.copy_table-requires-clause-to
copy_table-requires-clause-to c = row_of_roots c.self.inside.roots c.self.inside.leaves c.args.self.now c.args.n c.self.view_is c.requires.to

pub invariant_of-self : goal.invariant_of-self
invariant_of-self c =
    let f = c.self.inside in
    shared_tables f.roots f.leaves c.copy_table.new.tables c.args.m c.args.n c.self.invariant
    (row_of_roots f.roots f.leaves c.args.self.now c.args.n c.self.view_is c.requires.to) c.copy_table.ensures
    (λ i low. ap (λ (n : Names). get_or n.entries (c.args.n * memory_pages + i) 0) c.self.view_is ∙ c.requires.empty i low)

pub returns-clause-copied : goal.returns-clause-copied
returns-clause-copied c =
    let f = c.self.inside in
    let new = c.copy_table.new.tables in
    subst (λ (n : Names). IsCopied memory_pages n (names_seen new f.leaves) c.args.m c.args.n memory_pages) c.self.view_is
    (shared_copied f.roots f.leaves new c.args.m c.args.n c.self.invariant (invariant_of-self c)
    (row_of_roots f.roots f.leaves c.args.self.now c.args.m c.self.view_is c.requires.from)
    (row_of_roots f.roots f.leaves c.args.self.now c.args.n c.self.view_is c.requires.to) c.copy_table.ensures)

pub returns-clause-used : goal.returns-clause-used
returns-clause-used c =
    let f = c.self.inside in
    let was = different_flat f.roots f.leaves c.self.invariant in
    let now = different_flat c.copy_table.new.tables f.leaves (invariant_of-self c) in
    let seen = ap (λ (n : Names). different n.entries) c.self.view_is in
    omega (arith, was, now, seen)
