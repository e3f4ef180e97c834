use Rattle.shared_pages.specs.Size.{memory_pages}
use Rattle.std.proofs.Common.{◌≡◌, ◌+◌, ◌*◌, ℕ, Some, sym, arith, get_or, ap, ◌∙◌}
use Rattle.shared_pages.specs.Store.{Store, Memory, seen, memory, used_pages}
use Rattle.shared_pages.proofs.ForkSteps.{added_others, copied_row, copy_seen, forked_store, other_row, taken_live}
use Rattle.shared_pages.proofs.Kept.{some_when}
use Rattle.shared_pages.proofs.Views.{known_in, live_below, live_is, live_owned, none_at, not_live, used_seen}
use Rattle.shared_pages.proofs.store.PageStore.fork.Goals as goal

pub share_row-requires-clause-from : goal.share_row-requires-clause-from
share_row-requires-clause-from c =
    let f = c.self.inside in
    let known = known_in (seen f.slots f.tables f.bytes.items f.peak) c.args.self.now c.id.inside.number c.args.id.now c.self.view_is c.id.view_is
    c.requires.known in
    let below = live_below f.slots f.tables.entries f.bytes.items c.id.inside.number known in
    let tables = c.self.invariant.tables in
    let long = c.new_row.ensures.tables.long in
    omega (arith, below, tables, long)

pub share_row-requires-clause-apart : goal.share_row-requires-clause-apart
share_row-requires-clause-apart c e =
    let f = c.self.inside in
    let known = known_in (seen f.slots f.tables f.bytes.items f.peak) c.args.self.now c.id.inside.number c.args.id.now c.self.view_is c.id.view_is
    c.requires.known in
    let owned = live_owned f.slots f.tables.entries f.bytes.items c.id.inside.number known in
    let free : get_or f.slots c.in_ok-number.number 0 ≡ 0 = c.in_ok-number.ensures.free in
    let same : get_or f.slots c.id.inside.number 0 ≡ get_or f.slots c.in_ok-number.number 0 = ap (λ (m : ℕ). get_or f.slots m 0) e in
    omega (arith, owned, free, same)

pub share_row-requires-clause-empty : goal.share_row-requires-clause-empty
share_row-requires-clause-empty c i low =
    let n = c.in_ok-number.number in
    c.new_row.ensures.tables.same (n * memory_pages + i)
    ∙ c.self.invariant.dead n i (not_live c.self.inside.slots n c.in_ok-number.ensures.free) low

pub invariant_of-self-2 : goal.invariant_of-self-2
invariant_of-self-2 c =
    let f = c.self.inside in
    forked_store f.slots c.new_row.new.slots f.tables c.new_row.new.tables c.share_row.new.self f.bytes.items f.peak c.id.inside.number
    c.in_ok-number.number c.self.invariant c.in_ok-number.ensures.taken c.in_ok-number.ensures.other c.new_row.ensures.tables c.new_row.ensures.rows
    c.share_row.ensures.copied c.share_row.ensures.used

pub returns-clause-fresh : goal.returns-clause-fresh
returns-clause-fresh c =
    let f = c.self.inside in
    sym (ap (λ (s : Store). memory s c.in_ok-number.number) c.self.view_is)
    ∙ none_at f.slots f.tables.entries f.bytes.items c.in_ok-number.number c.in_ok-number.ensures.free

pub returns-clause-forked : goal.returns-clause-forked
returns-clause-forked c =
    let f = c.self.inside in
    let m = c.id.inside.number in
    let n = c.in_ok-number.number in
    let new = c.share_row.new.self in
    let known = known_in (seen f.slots f.tables f.bytes.items f.peak) c.args.self.now m c.args.id.now c.self.view_is c.id.view_is c.requires.known in
    some_when c.new_row.new.slots new.entries f.bytes.items n
    (taken_live f.slots c.new_row.new.slots n c.in_ok-number.ensures.taken c.in_ok-number.ensures.other)
    ∙ ap (λ (x : Memory). Some x) (copy_seen f.tables.entries new.entries f.bytes.items m n (λ i low.
    copied_row f.tables c.new_row.new.tables new m n i c.new_row.ensures.tables c.share_row.ensures.copied low))
    ∙ sym (live_is f.slots f.tables.entries f.bytes.items m known)
    ∙ ap (λ (s : Store). memory s m) c.self.view_is
    ∙ ap (λ (k : ℕ). memory c.args.self.now k) c.id.view_is

pub returns-clause-others : goal.returns-clause-others
returns-clause-others c k ne =
    let f = c.self.inside in
    let m = c.id.inside.number in
    let n = c.in_ok-number.number in
    let new = c.share_row.new.self in
    added_others f.slots c.new_row.new.slots f.tables new f.bytes.items f.peak n k c.in_ok-number.ensures.taken ne (λ i low.
    other_row f.tables c.new_row.new.tables new m n k i c.new_row.ensures.tables c.share_row.ensures.copied ne low)
    ∙ ap (λ (s : Store). memory s k) c.self.view_is

pub returns-clause-used : goal.returns-clause-used
returns-clause-used c =
    let f = c.self.inside in
    let was = used_seen f.slots f.tables f.bytes.items f.peak c.self.invariant in
    let now = used_seen c.new_row.new.slots c.share_row.new.self f.bytes.items f.peak (invariant_of-self-2 c) in
    let is = ap used_pages c.self.view_is in
    let more = c.new_row.ensures.tables.used in
    let copied = c.share_row.ensures.used in
    omega (arith, was, now, is, more, copied)
