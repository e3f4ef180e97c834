use Rattle.shared_pages.specs.Size.{memory_pages}
use Rattle.std.proofs.Common.{◌+◌, ◌*◌, Some, sym, arith, ap, ◌∙◌}
use Rattle.shared_pages.specs.Store.{Store, Memory, memory, used_pages}
use Rattle.shared_pages.proofs.ForkSteps.{added_others, begun_store, taken_live}
use Rattle.shared_pages.proofs.Kept.{some_when}
use Rattle.shared_pages.proofs.Openings.{zero_seen}
use Rattle.shared_pages.proofs.Views.{none_at, not_live, used_seen}
use Rattle.shared_pages.proofs.store.PageStore.begin_empty.Goals as goal

pub invariant_of-self-2 : goal.invariant_of-self-2
invariant_of-self-2 c =
    let f = c.self.inside in
    begun_store f.slots c.new_row.new.slots f.tables c.new_row.new.tables f.bytes.items f.peak c.in_ok-number.number c.self.invariant
    c.in_ok-number.ensures.taken c.in_ok-number.ensures.other c.in_ok-number.ensures.free c.new_row.ensures.tables c.new_row.ensures.rows

pub returns-clause-fresh : goal.returns-clause-fresh
returns-clause-fresh c =
    let f = c.self.inside in
    sym (ap (λ (s : Store). memory s c.in_ok-number.number) c.self.view_is)
    ∙ none_at f.slots f.tables.entries f.bytes.items c.in_ok-number.number c.in_ok-number.ensures.free

pub returns-clause-begun : goal.returns-clause-begun
returns-clause-begun c =
    let f = c.self.inside in
    let n = c.in_ok-number.number in
    some_when c.new_row.new.slots c.new_row.new.tables.entries f.bytes.items n
    (taken_live f.slots c.new_row.new.slots n c.in_ok-number.ensures.taken c.in_ok-number.ensures.other)
    ∙ ap (λ (x : Memory). Some x) (zero_seen c.new_row.new.tables.entries f.bytes.items n
    (λ i low. c.new_row.ensures.tables.same (n * memory_pages + i)
    ∙ c.self.invariant.dead n i (not_live f.slots n c.in_ok-number.ensures.free) low)
    c.self.invariant.zero)

pub returns-clause-others : goal.returns-clause-others
returns-clause-others c k ne =
    let f = c.self.inside in
    added_others f.slots c.new_row.new.slots f.tables c.new_row.new.tables f.bytes.items f.peak c.in_ok-number.number k c.in_ok-number.ensures.taken ne
    (λ i low. c.new_row.ensures.tables.same (k * memory_pages + i))
    ∙ ap (λ (s : Store). memory s k) c.self.view_is

pub returns-clause-used : goal.returns-clause-used
returns-clause-used c =
    let f = c.self.inside in
    let was = used_seen f.slots f.tables f.bytes.items f.peak c.self.invariant in
    let now = used_seen c.new_row.new.slots c.new_row.new.tables f.bytes.items f.peak (invariant_of-self-2 c) in
    let is = ap used_pages c.self.view_is in
    let more = c.new_row.ensures.tables.used in
    omega (arith, was, now, is, more)

pub returns-clause-most : goal.returns-clause-most
returns-clause-most c =
    let f = c.self.inside in
    let now = used_seen c.new_row.new.slots c.new_row.new.tables f.bytes.items f.peak (invariant_of-self-2 c) in
    let most = (invariant_of-self-2 c).most in
    omega (arith, now, most)
