use Rattle.std.proofs.Common.{◌≡◌, ◌-◌, ℕ, subst, sym, arith, get_or, ap, ◌∙◌, List, get_or-set_same}
use Rattle.shared_pages.specs.Store.{Store, IsStore, seen, memory, own_count, used_pages}
use Rattle.shared_pages.proofs.Views.{known_in, live_below, live_owned, live_positive, none_at}
use Rattle.shared_pages.proofs.ReleaseSteps.{released_same, released_store, released_used}
use Rattle.shared_pages.proofs.store.PageStore.release.Goals as goal

pub clear_row-requires-clause-place : goal.clear_row-requires-clause-place
clear_row-requires-clause-place c =
    let f = c.self.inside in
    let m = c.id.inside.number in
    let known = known_in (seen f.slots f.tables f.bytes.items f.peak) c.args.self.now m c.args.id c.self.view_is c.id.view_is c.requires.known in
    let below = live_below f.slots f.tables.entries f.bytes.items m known in
    let tables = c.self.invariant.tables in
    omega (arith, below, tables)

pub less-requires-clause-other : goal.less-requires-clause-other
less-requires-clause-other c =
    let f = c.self.inside in
    let m = c.id.inside.number in
    let known = known_in (seen f.slots f.tables f.bytes.items f.peak) c.args.self.now m c.args.id c.self.view_is c.id.view_is c.requires.known in
    live_positive f.slots f.tables.entries f.bytes.items m known

pub less-requires-clause-owned : goal.less-requires-clause-owned
less-requires-clause-owned c =
    let f = c.self.inside in
    let m = c.id.inside.number in
    let known = known_in (seen f.slots f.tables f.bytes.items f.peak) c.args.self.now m c.args.id c.self.view_is c.id.view_is c.requires.known in
    live_owned f.slots f.tables.entries f.bytes.items m known

pub invariant_of-self : goal.invariant_of-self
invariant_of-self c =
    let f = c.self.inside in
    let m = c.id.inside.number in
    let known = known_in (seen f.slots f.tables f.bytes.items f.peak) c.args.self.now m c.args.id c.self.view_is c.id.view_is c.requires.known in
    subst (λ (xs : List ℕ). IsStore xs c.clear_row.new.tables f.bytes.items f.peak) (sym c.less.ensures)
    (released_store f.slots f.tables c.clear_row.new.tables f.bytes.items f.peak m c.self.invariant c.clear_row.ensures
    (live_below f.slots f.tables.entries f.bytes.items m known)
    (live_positive f.slots f.tables.entries f.bytes.items m known))

pub returns-clause-gone : goal.returns-clause-gone
returns-clause-gone c =
    let f = c.self.inside in
    let m = c.id.inside.number in
    let known = known_in (seen f.slots f.tables f.bytes.items f.peak) c.args.self.now m c.args.id c.self.view_is c.id.view_is c.requires.known in
    let some = live_positive f.slots f.tables.entries f.bytes.items m known in
    let at : get_or c.less.new.self m 0 ≡ get_or f.slots m 0 - 1 =
    ap (λ (xs : List ℕ). get_or xs m 0) c.less.ensures ∙ get_or-set_same f.slots m (get_or f.slots m 0 - 1) 0
    (live_below f.slots f.tables.entries f.bytes.items m known) in
    let once = c.self.invariant.once m some in
    ap (λ (k : ℕ). memory (seen c.less.new.self c.clear_row.new.tables f.bytes.items f.peak) k) (sym c.id.view_is)
    ∙ none_at c.less.new.self c.clear_row.new.tables.entries f.bytes.items m (omega (arith, at, once))

pub returns-clause-others : goal.returns-clause-others
returns-clause-others c k ne =
    let f = c.self.inside in
    let m = c.id.inside.number in
    ap (λ (xs : List ℕ). memory (seen xs c.clear_row.new.tables f.bytes.items f.peak) k) c.less.ensures
    ∙ released_same f.slots f.tables c.clear_row.new.tables f.bytes.items f.peak m k c.clear_row.ensures (λ e. ne (e ∙ c.id.view_is))
    ∙ ap (λ (s : Store). memory s k) c.self.view_is

pub returns-clause-used : goal.returns-clause-used
returns-clause-used c =
    let f = c.self.inside in
    let m = c.id.inside.number in
    let old = seen f.slots f.tables f.bytes.items f.peak in
    let known = known_in old c.args.self.now m c.args.id c.self.view_is c.id.view_is c.requires.known in
    let used = released_used f.slots f.tables c.clear_row.new.tables f.bytes.items f.peak m c.self.invariant c.clear_row.ensures
    (live_below f.slots f.tables.entries f.bytes.items m known) (live_positive f.slots f.tables.entries f.bytes.items m known) known in
    let slots = ap (λ (xs : List ℕ). used_pages (seen xs c.clear_row.new.tables f.bytes.items f.peak)) c.less.ensures in
    let own = ap (λ (s : Store). own_count s m) c.self.view_is ∙ ap (λ (k : ℕ). own_count c.args.self.now k) c.id.view_is in
    let was = ap used_pages c.self.view_is in
    omega (arith, used, slots, own, was)
