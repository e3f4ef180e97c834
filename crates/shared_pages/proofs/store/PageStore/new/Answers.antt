use Rattle.std.proofs.Common.{◌≡◌, [], ℕ, List, arith, get_or, ap, subst, sym, ◌∙◌}
use Rattle.shared_pages.specs.Counts.{Names, different}
use Rattle.shared_pages.specs.Store.{IsStore, seen, memory}
use Rattle.shared_pages.proofs.NewSteps.{new_store, no_memory}
use Rattle.shared_pages.proofs.Views.{used_seen}
use Rattle.shared_pages.proofs.store.PageStore.new.Goals as goal

pub returns-clause-empty : goal.returns-clause-empty
returns-clause-empty c k =
    ap (λ (slots : List ℕ). memory (seen slots c.make_room.new.tables c.page_room.new.bytes.items 1) k) c.in_ok-slots.ensures
    ∙ no_memory c.make_room.new.tables c.page_room.new.bytes.items 1 k

pub returns-clause-used : goal.returns-clause-used
returns-clause-used c =
    let names = c.make_room.new.tables in
    let bs = c.page_room.new.bytes.items in
    let more = c.make_room.ensures.tables in
    let none : c.in_ok-tables.tables.entries ≡ [] = ap (λ (n : Names). n.entries) c.in_ok-tables.ensures in
    let row = c.in_ok-make_room.ensures.room in
    let room = c.in_ok-page_room.ensures.room in
    let used : different names.entries ≡ 0 = more.used ∙ ap different none in
    let store = new_store names bs (omega (arith, row)) more.few (λ j. more.same j ∙ ap (λ (xs : List ℕ). get_or xs j 0) none)
    (more.limit ∙ ap (λ (n : Names). n.limit) c.in_ok-tables.ensures) used (omega (arith, room))
    (λ o. c.page_room.ensures.same o ∙ ap (λ (xs : List ℕ). get_or xs o 0) c.new-bytes.ensures.items) in
    let is = used_seen c.in_ok-slots.slots names bs 1 (subst (λ (xs : List ℕ). IsStore xs names bs 1) (sym c.in_ok-slots.ensures) store) in
    omega (arith, is, used)
