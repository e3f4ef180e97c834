use Rattle.am_base.specs.declared.limits.TheConstants.{PAGE_BYTES}
use Rattle.std.proofs.Common.{◌≡◌, ◌+◌, ◌-◌, ◌*◌, ℕ, true, false, arith, drop, take, sym, ap, ◌∙◌}
use Rattle.shared_pages.specs.Opening.{are_zero, page_of}
use Rattle.shared_pages.proofs.Openings.{filled, full_when, skipped}
use Rattle.shared_pages.proofs.opening.open_page.Goals as goal

pub returns-then-is_zero-clause-ok : goal.returns-then-is_zero-clause-ok
returns-then-is_zero-clause-ok c =
    let bytes = c.args.bytes.now in
    let i = c.args.number in
    let whole : PAGE_BYTES ≡ (i * PAGE_BYTES + PAGE_BYTES) - i * PAGE_BYTES = omega arith in
    let zero : are_zero (page_of bytes i) ≡ true = ap (λ (n : ℕ). are_zero (take n (drop (i * PAGE_BYTES) bytes))) whole
    ∙ sym c.is_zero.ensures ∙ c.if-is_zero.true in
    skipped c.args.store.now c.args.id.now i bytes c.requires.known c.requires.before c.requires.empty c.requires.most (full_when bytes i true zero)

pub returns-clause-ok : goal.returns-clause-ok
returns-clause-ok c =
    let bytes = c.args.bytes.now in
    let i = c.args.number in
    let whole : PAGE_BYTES ≡ (i * PAGE_BYTES + PAGE_BYTES) - i * PAGE_BYTES = omega arith in
    let some : are_zero (page_of bytes i) ≡ false = ap (λ (n : ℕ). are_zero (take n (drop (i * PAGE_BYTES) bytes))) whole
    ∙ sym c.is_zero.ensures ∙ c.if-is_zero.false in
    filled c.args.store.now c.take_page.new.self c.put_page.new.store c.args.id.now i bytes c.requires.empty c.in_ok-take_page.ensures.taken
    c.put_page.ensures (full_when bytes i false some)
