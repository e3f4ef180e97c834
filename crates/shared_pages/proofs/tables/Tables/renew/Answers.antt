use Rattle.shared_pages.specs.Size.{memory_pages, table_entries}
use Rattle.std.proofs.Common.{◌≡◌, ◌≢◌, ◌<◌, ◌≤◌, ◌+◌, ◌*◌, ◌/◌, ◌%◌, ◌++◌, [], ℕ, List, Bool, true, false, length, get_or, set, replicate, arith, ap, sym, ◌∙◌, subst, refl}
use Rattle.shared_pages.specs.Counts.{IsShared, Names, different, occurs}
use Rattle.shared_pages.specs.Tables.{AreTables, flat, names_seen}
use Rattle.shared_pages.proofs.Flat.{different_flat, in_leaves, in_roots, shared_leaf, unnamed_flat}
use Rattle.shared_pages.proofs.LeafSteps.{names_same, set_seen, set_tables, set_used}
use Rattle.shared_pages.proofs.tables.Tables.renew.Goals as goal

pub own_leaf-requires-clause-place : goal.own_leaf-requires-clause-place
own_leaf-requires-clause-place c = in_roots c.self.inside.roots c.self.inside.leaves c.args.self.now c.args.at c.self.view_is c.requires.place

pub renew-requires-clause-shared : goal.renew-requires-clause-shared
renew-requires-clause-shared c =
    let own = c.in_ok-leaf.ensures.own in
    let same = c.own_leaf.ensures.same in
    shared_leaf c.own_leaf.new.roots c.own_leaf.new.leaves c.args.at c.in_ok-leaf.leaf same.tables own
    (subst (λ (n : Names). IsShared n.entries c.args.at) (sym (same.seen ∙ c.self.view_is)) c.requires.shared) own.below

pub returns-in-Some-clause-unnamed : goal.returns-in-Some-clause-unnamed
returns-in-Some-clause-unnamed c =
    let same = c.own_leaf.ensures.same in
    ap (λ (n : Names). occurs c.in-Some.page n.entries) (sym (same.seen ∙ c.self.view_is))
    ∙ unnamed_flat c.own_leaf.new.roots c.own_leaf.new.leaves c.in-Some.page same.tables c.in-Some.ensures.other.0 c.in-Some.ensures.unnamed

pub returns-in-Some-clause-some : goal.returns-in-Some-clause-some
returns-in-Some-clause-some c =
    let same = c.own_leaf.ensures.same in
    let view = same.seen ∙ c.self.view_is in
    let now = c.args.self.now in
    let at = c.args.at in
    names_same (names_seen c.own_leaf.new.roots c.renew.new.self) (record { entries = set now.entries at c.in-Some.page; limit = now.limit })
    (set_seen c.own_leaf.new.roots c.own_leaf.new.leaves c.renew.new.self now at c.in_ok-leaf.leaf c.in-Some.page same.tables c.in_ok-leaf.ensures.own
    (ap (λ (n : Names). n.entries) c.in-Some.ensures.some) view)
    (ap (λ (n : Names). n.limit) c.in-Some.ensures.some ∙ ap (λ (n : Names). n.limit) view)

pub returns-in-Some-clause-used : goal.returns-in-Some-clause-used
returns-in-Some-clause-used c =
    let same = c.own_leaf.ensures.same in
    let later = set_tables c.own_leaf.new.roots c.own_leaf.new.leaves c.renew.new.self c.args.at c.in_ok-leaf.leaf c.in-Some.page same.tables
    c.in_ok-leaf.ensures.own (ap (λ (n : Names). n.entries) c.in-Some.ensures.some) in
    set_used c.own_leaf.new.roots c.own_leaf.new.leaves c.renew.new.self c.args.self.now same.tables later c.in-Some.ensures.used
    (same.seen ∙ c.self.view_is)

pub returns-clause-full : goal.returns-clause-full
returns-clause-full c =
    let same = c.own_leaf.ensures.same in
    let view = same.seen ∙ c.self.view_is in
    let full = c.in_default.ensures.full in
    let seen = different_flat c.own_leaf.new.roots c.own_leaf.new.leaves same.tables in
    sym (ap (λ (n : Names). n.limit) view) ∙ full ∙ ap (λ (d : ℕ). d + 1) (sym seen) ∙ ap (λ (n : Names). different n.entries + 1) view
