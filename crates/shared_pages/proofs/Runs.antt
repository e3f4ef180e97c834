-- Runs of bytes within one page.
use Rattle.am_base.specs.declared.limits.TheConstants.{MEMORY_BYTES, PAGE_BYTES}
use Rattle.shared_pages.specs.Size.{memory_pages}
use Rattle.std.proofs.Common.{◌≡◌, ℕ, ◌+◌, ◌*◌, ◌/◌, ◌%◌, ◌<◌, ◌≤◌, List, length, take, drop, get_or, arith, ap, sym, ◌∙◌}
use Rattle.std.proofs.lemmas.List.{get_or_default, same_lists}
use Rattle.std.proofs.lemmas.Simd.{length-chunk, get_or-chunk}
use Rattle.shared_pages.specs.Counts.{Names}
use Rattle.shared_pages.specs.Store.{IsStore, IsIn, Memory, seen, the_memory, tabulate, byte_at}
use Rattle.shared_pages.proofs.Tabulate.{at_tabulate, length-tabulate}
use Rattle.shared_pages.proofs.Views.{memory_is}

pub run_seen : (slots : List ℕ) (names : Names) (bs : List ℕ) (peak m at count : ℕ) → IsStore slots names bs peak → IsIn (seen slots names bs peak) m
    → at < MEMORY_BYTES
    → at % PAGE_BYTES + count ≤ PAGE_BYTES → get_or names.entries (m * memory_pages + at / PAGE_BYTES) 0 < names.limit
    → take count (drop (get_or names.entries (m * memory_pages + at / PAGE_BYTES) 0 * PAGE_BYTES + at % PAGE_BYTES) bs) ≡ take count (drop at (the_memory
    (seen slots names bs peak) m).bytes)
run_seen slots names bs peak m at count store known low within limit =
    let es = names.entries in
    let page = get_or es (m * memory_pages + at / PAGE_BYTES) 0 in
    let place = page * PAGE_BYTES + at % PAGE_BYTES in
    let all = tabulate MEMORY_BYTES (byte_at es bs m) in
    let pages = store.pages in
    let room : place + count ≤ length bs = omega (arith, pages, limit, within) in
    let end : at + count ≤ MEMORY_BYTES = omega (arith, low, within) in
    let long : at + count ≤ length all = (let l = length-tabulate MEMORY_BYTES (byte_at es bs m) in omega (arith, l, end)) in
    let here : length (take count (drop place bs)) ≡ count = length-chunk place count bs room in
    let there : length (take count (drop at all)) ≡ count = length-chunk at count all long in
    same_lists (take count (drop place bs)) (take count (drop at all)) (here ∙ sym there) (λ i d below.
    let h : i < count = omega (arith, below, here) in
    let entry : (at + i) / PAGE_BYTES ≡ at / PAGE_BYTES = omega (arith, within, h) in
    let offset : (at + i) % PAGE_BYTES ≡ at % PAGE_BYTES + i = omega (arith, within, h) in
    let byte : byte_at es bs m (at + i) ≡ get_or bs (place + i) 0 =
    ap (λ (q : ℕ). get_or bs (get_or es (m * memory_pages + q) 0 * PAGE_BYTES + (at + i) % PAGE_BYTES) 0) entry
    ∙ ap (λ (q : ℕ). get_or bs q 0) (omega (arith, offset)) in
    get_or-chunk place count bs i d h ∙ get_or_default bs (place + i) d 0 (omega (arith, h, room)) ∙ sym byte
    ∙ sym (at_tabulate MEMORY_BYTES (byte_at es bs m) (at + i) d (omega (arith, end, h))) ∙ sym (get_or-chunk at count all i d h))
    ∙ ap (λ (x : Memory). take count (drop at x.bytes)) (sym (memory_is slots names bs peak m known))
