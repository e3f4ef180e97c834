use Rattle.am_base.specs.declared.limits.TheConstants.{PAGE_BYTES}
use Rattle.shared_pages.specs.Size.{memory_pages}
use Rattle.std.proofs.Common.{◌≡◌, ◌<◌, ◌+◌, ◌*◌, ◌/◌, ◌%◌, ℕ, List, take, drop, arith, get_or, ap, ◌∙◌}
use Rattle.shared_pages.specs.Store.{Store, seen, the_memory}
use Rattle.shared_pages.proofs.Views.{known_in, table_in}
use Rattle.shared_pages.proofs.Runs.{run_seen}
use Rattle.shared_pages.proofs.store.PageStore.run.Goals as goal

pub entry-page-requires : goal.entry-page-requires
entry-page-requires c =
    let f = c.self.inside in
    let known = known_in
    (seen f.slots f.tables f.bytes.items f.peak) c.args.self.now c.id.inside.number c.args.id.now c.self.view_is c.id.view_is c.requires.known in
    let range = c.requires.range in
    table_in f.slots f.tables f.bytes.items f.peak c.id.inside.number (c.args.at / PAGE_BYTES) c.self.invariant known (omega (arith, range))

pub returns : goal.returns
returns c =
    let f = c.self.inside in
    let m = c.id.inside.number in
    let at = c.args.at in
    let n = c.args.count in
    let bs = f.bytes.items in
    let place = c.entry-page.result * PAGE_BYTES + at % PAGE_BYTES in
    let known = known_in (seen f.slots f.tables bs f.peak) c.args.self.now m c.args.id.now c.self.view_is c.id.view_is c.requires.known in
    let value : c.entry-page.result ≡ get_or f.tables.entries (m * memory_pages + at / PAGE_BYTES) 0 = c.entry-page.ensures.value in
    let low : get_or f.tables.entries (m * memory_pages + at / PAGE_BYTES) 0 < f.tables.limit = (let below = c.entry-page.ensures.below in omega
    (arith, value, below)) in
    ap (λ (k : ℕ). take k (drop place c.deref.result.now)) (omega arith)
    ∙ ap (λ (xs : List ℕ). take n (drop place xs)) c.deref.ensures.value
    ∙ ap (λ (q : ℕ). take n (drop (q * PAGE_BYTES + at % PAGE_BYTES) bs)) value
    ∙ run_seen f.slots f.tables bs f.peak m at n c.self.invariant known c.requires.range c.requires.within low
    ∙ ap (λ (s : Store). take n (drop at (the_memory s m).bytes)) c.self.view_is
    ∙ ap (λ (k : ℕ). take n (drop at (the_memory c.args.self.now k).bytes)) c.id.view_is
