use Rattle.std.proofs.Common.{◌≡◌, ◌<◌, ◌*◌, length, get_or, sym, arith, ap, ◌∙◌, subst, ℕ}
use Rattle.shared_pages.specs.Size.{table_entries}
use Rattle.shared_pages.specs.Counts.{Names}
use Rattle.shared_pages.specs.Rows.{IsCopied}
use Rattle.shared_pages.specs.Tables.{AreSame, IsOwnLeaf}
use Rattle.shared_pages.proofs.Named.{shared_when}
use Rattle.shared_pages.proofs.LeafSteps.{none_same, own_already, owned_leaf, owned_same}
use Rattle.shared_pages.proofs.leaves.own_leaf.Goals as goal

pub returns-then-is_own-clause-same : goal.returns-then-is_own-clause-same
returns-then-is_own-clause-same c = none_same c.args.roots.now c.args.leaves.now c.requires.tables

pub returns-clause-same : goal.returns-clause-same
returns-clause-same c =
    let shared = shared_when c.args.roots.now.entries c.args.at c.requires.place (sym c.is_own.ensures ∙ c.if-is_own.false) in
    owned_same c.args.roots.now c.args.leaves.now c.fresh_leaf.new.roots c.fresh_leaf.new.leaves c.copy_table.new.tables c.args.at
    c.in_ok-new.new c.requires.tables c.requires.place shared c.in_ok-new.ensures.ok
    (subst (λ (k : ℕ). IsCopied table_entries c.fresh_leaf.new.leaves c.copy_table.new.tables k c.in_ok-new.new table_entries) c.entry-old.ensures.value
    c.copy_table.ensures)
