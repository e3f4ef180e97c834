use Rattle.shared_pages.specs.Size.{table_entries}
use Rattle.std.proofs.Common.{◌≡◌, ◌≢◌, ◌<◌, ◌≤◌, ◌+◌, ◌*◌, ◌/◌, ◌%◌, ℕ, Bool, true, false, length, get_or, arith, ap, sym, ◌∙◌, subst}
use Rattle.shared_pages.specs.Counts.{Names}
use Rattle.shared_pages.specs.Rows.{IsCleared}
use Rattle.shared_pages.specs.Store.{own_at}
use Rattle.shared_pages.specs.Tables.{names_seen}
use Rattle.shared_pages.proofs.Flat.{flat_place, root_in, row_in_leaves}
use Rattle.shared_pages.proofs.LeafSteps.{ended_cleared, ended_tables, left_cleared, left_tables}
use Rattle.shared_pages.proofs.Named.{shared_when}
use Rattle.shared_pages.proofs.tables.Tables.clear_leaf.Goals as goal

pub entry-leaf-requires : goal.entry-leaf-requires
entry-leaf-requires c = root_in c.self.inside.roots c.self.inside.leaves c.args.self.now c.args.at c.self.view_is c.requires.place

pub is_own-requires : goal.is_own-requires
is_own-requires c = root_in c.self.inside.roots c.self.inside.leaves c.args.self.now c.args.at c.self.view_is c.requires.place

pub clear-requires : goal.clear-requires
clear-requires c = record {
  place = root_in c.self.inside.roots c.self.inside.leaves c.args.self.now c.args.at c.self.view_is c.requires.place;
}

pub returns-then-not-is_own : goal.returns-then-not-is_own
returns-then-not-is_own c =
    let f = c.self.inside in
    let at = c.args.at in
    let place = root_in f.roots f.leaves c.args.self.now at c.self.view_is c.requires.place in
    let out : own_at f.roots.entries at ≡ false = sym c.is_own.ensures ∙ c.if-not-is_own.true in
    subst (λ (n : Names). IsCleared table_entries n (names_seen c.clear.new.self f.leaves) at table_entries) c.self.view_is
    (left_cleared f.roots f.leaves c.clear.new.self at c.self.invariant place out (shared_when f.roots.entries at place out) c.clear.ensures.entries
    c.clear.ensures.limit)

pub clear_table-requires-clause-apart : goal.clear_table-requires-clause-apart
clear_table-requires-clause-apart c i j low lower full e =
    let f = c.self.inside in
    let at = c.args.at in
    let place = root_in f.roots f.leaves c.args.self.now at c.self.view_is c.requires.place in
    let here : (k : ℕ) → k < table_entries → get_or c.args.self.now.entries (at * table_entries + k) 0
    ≡ get_or f.leaves.entries (c.entry-leaf.result * table_entries + k) 0 =
    (λ k small. ap (λ (n : Names). get_or n.entries (at * table_entries + k) 0) (sym c.self.view_is)
    ∙ flat_place f.roots.entries f.leaves.entries at k place small
    ∙ ap (λ (l : ℕ). get_or f.leaves.entries (l * table_entries + k) 0) (sym c.entry-leaf.ensures.value)) in
    c.requires.apart i j low lower (λ z. full (sym (here i low) ∙ z)) (here i low ∙ e ∙ sym (here j lower))

pub returns : goal.returns
returns c =
    let f = c.self.inside in
    let at = c.args.at in
    let place = root_in f.roots f.leaves c.args.self.now at c.self.view_is c.requires.place in
    let own : own_at f.roots.entries at ≡ true = sym c.is_own.ensures ∙ c.if-not-is_own.false in
    let cleared = subst (λ (l : ℕ). IsCleared table_entries f.leaves c.clear_table.new.tables l table_entries) c.entry-leaf.ensures.value
    c.clear_table.ensures in
    subst (λ (n : Names). IsCleared table_entries n (names_seen c.clear-2.new.self c.clear_table.new.tables) at table_entries) c.self.view_is
    (ended_cleared f.roots f.leaves c.clear-2.new.self c.clear_table.new.tables at c.self.invariant place own cleared c.clear-2.ensures.entries
    c.clear-2.ensures.limit)
