use Rattle.shared_pages.specs.Size.{memory_pages, table_entries}
use Rattle.std.proofs.Common.{◌≡◌, ◌≢◌, ◌<◌, ◌≤◌, ◌+◌, ◌*◌, ◌/◌, ◌%◌, ◌++◌, [], ℕ, List, Bool, true, false, length, get_or, set, replicate, arith, ap, sym, ◌∙◌, subst, refl}
use Rattle.shared_pages.specs.Counts.{IsShared, Names, different, occurs}
use Rattle.shared_pages.specs.Tables.{AreTables, flat, names_seen}
use Rattle.shared_pages.proofs.Flat.{in_leaves, in_roots, shared_leaf, unnamed_flat}
use Rattle.shared_pages.proofs.LeafSteps.{names_same, set_seen, set_tables, set_used}
use Rattle.shared_pages.proofs.tables.Tables.add.Goals as goal

pub own_leaf-requires-clause-place : goal.own_leaf-requires-clause-place
own_leaf-requires-clause-place c = in_roots c.self.inside.roots c.self.inside.leaves c.args.self.now c.args.at c.self.view_is c.requires.place

pub add-requires-clause-shared : goal.add-requires-clause-shared
add-requires-clause-shared c =
    let own = c.in_ok-leaf.ensures.own in
    let same = c.own_leaf.ensures.same in
    shared_leaf c.own_leaf.new.roots c.own_leaf.new.leaves c.args.at c.in_ok-leaf.leaf same.tables own
    (subst (λ (n : Names). IsShared n.entries c.args.at) (sym (same.seen ∙ c.self.view_is)) c.requires.shared) own.below

pub returns-clause-unnamed : goal.returns-clause-unnamed
returns-clause-unnamed c =
    let same = c.own_leaf.ensures.same in
    let view = same.seen ∙ c.self.view_is in
    let r = c.own_leaf.new.roots in
    let l = c.own_leaf.new.leaves in
    ap (λ (n : Names). occurs n.limit n.entries) (sym view)
    ∙ unnamed_flat r l l.limit same.tables c.in_ok-add.ensures.other c.in_ok-add.ensures.unnamed

pub returns-clause-ok : goal.returns-clause-ok
returns-clause-ok c =
    let same = c.own_leaf.ensures.same in
    let view = same.seen ∙ c.self.view_is in
    let r = c.own_leaf.new.roots in
    let l = c.own_leaf.new.leaves in
    let now = c.args.self.now in
    let at = c.args.at in
    let limit : l.limit ≡ now.limit = ap (λ (n : Names). n.limit) view in
    names_same (names_seen r c.add.new.self) (record { entries = set now.entries at now.limit; limit = now.limit + 1 })
    (set_seen r l c.add.new.self now at c.in_ok-leaf.leaf l.limit same.tables c.in_ok-leaf.ensures.own (ap (λ (n : Names). n.entries)
    c.in_ok-add.ensures.ok) view ∙ ap (set now.entries at) limit)
    (ap (λ (n : Names). n.limit) c.in_ok-add.ensures.ok ∙ ap (λ (x : ℕ). x + 1) limit)

pub returns-clause-used : goal.returns-clause-used
returns-clause-used c =
    let same = c.own_leaf.ensures.same in
    let later = set_tables c.own_leaf.new.roots c.own_leaf.new.leaves c.add.new.self c.args.at c.in_ok-leaf.leaf c.own_leaf.new.leaves.limit same.tables
    c.in_ok-leaf.ensures.own (ap (λ (n : Names). n.entries) c.in_ok-add.ensures.ok) in
    set_used c.own_leaf.new.roots c.own_leaf.new.leaves c.add.new.self c.args.self.now same.tables later c.in_ok-add.ensures.used
    (same.seen ∙ c.self.view_is)
