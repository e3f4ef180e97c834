use Rattle.shared_pages.specs.Size.{memory_pages, table_entries}
use Rattle.std.proofs.Common.{◌≡◌, ◌≢◌, ◌<◌, ◌≤◌, ◌+◌, ◌*◌, ◌/◌, ◌%◌, ◌++◌, [], ℕ, List, Bool, true, false, length, get_or, set, replicate, arith, ap, sym, ◌∙◌, subst, refl}
use Rattle.std.specs.Prelude.{◌&&◌}
use Rattle.shared_pages.specs.Counts.{Names}
use Rattle.shared_pages.specs.Store.{own_at}
use Rattle.shared_pages.proofs.Flat.{in_leaves, in_roots, own_any}
use Rattle.shared_pages.proofs.tables.Tables.is_own.Goals as goal

pub entry-leaf-requires : goal.entry-leaf-requires
entry-leaf-requires c = in_roots c.self.inside.roots c.self.inside.leaves c.args.self.now c.args.at c.self.view_is c.requires

pub is_own-requires : goal.is_own-requires
is_own-requires c = in_roots c.self.inside.roots c.self.inside.leaves c.args.self.now c.args.at c.self.view_is c.requires

pub returns-then-is_own : goal.returns-then-is_own
returns-then-is_own c =
    let f = c.self.inside in
    let at = c.args.at in
    let rs = f.roots.entries in
    let ls = f.leaves.entries in
    let root : own_at rs (at / table_entries) ≡ true = sym c.is_own.ensures ∙ c.if-is_own.true in
    c.is_own-then-is_own.ensures ∙ ap (λ (l : ℕ). own_at ls (l * table_entries + at % table_entries)) c.entry-leaf.ensures.value
    ∙ ap (λ (b : Bool). b && own_at ls (get_or rs (at / table_entries) 0 * table_entries + at % table_entries)) (sym root)
    ∙ sym (own_any f.roots f.leaves at c.self.invariant (in_roots f.roots f.leaves c.args.self.now at c.self.view_is c.requires))
    ∙ ap (λ (n : Names). own_at n.entries at) c.self.view_is

pub returns-else-is_own : goal.returns-else-is_own
returns-else-is_own c =
    let f = c.self.inside in
    let at = c.args.at in
    let rs = f.roots.entries in
    let ls = f.leaves.entries in
    let root : own_at rs (at / table_entries) ≡ false = sym c.is_own.ensures ∙ c.if-is_own.false in
    c.if-is_own.false
    ∙ ap (λ (b : Bool). b && own_at ls (get_or rs (at / table_entries) 0 * table_entries + at % table_entries)) (sym root)
    ∙ sym (own_any f.roots f.leaves at c.self.invariant (in_roots f.roots f.leaves c.args.self.now at c.self.view_is c.requires))
    ∙ ap (λ (n : Names). own_at n.entries at) c.self.view_is
