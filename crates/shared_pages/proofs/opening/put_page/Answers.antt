use Rattle.am_base.specs.declared.limits.TheConstants.{PAGE_BYTES}
use Rattle.std.proofs.Common.{◌≡◌, ◌+◌, ◌*◌, ℕ, arith, subst}
use Rattle.shared_pages.specs.Opening.{IsPut}
use Rattle.shared_pages.proofs.Openings.{put_next, put_owns}
use Rattle.shared_pages.proofs.opening.put_page.Goals as goal

pub write-requires-clause-own : goal.write-requires-clause-own
write-requires-clause-own c =
    put_owns c.args.store.now c.bytes.store c.args.id.now c.args.number c.bytes.at c.args.bytes.now c.bytes.invariant (omega (arith, c.bytes-test.true))
    c.requires.own

pub bytes-preserved : goal.bytes-preserved
bytes-preserved c =
    let end = c.args.number * PAGE_BYTES + c.bytes.at in
    subst (λ (n : ℕ). IsPut c.args.store.now c.write.new.self c.args.id.now c.args.bytes.now n)
    (let e : end + 1 ≡ c.args.number * PAGE_BYTES + (c.bytes.at + 1) = omega arith in e)
    (put_next c.args.store.now c.bytes.store c.write.new.self c.args.id.now end c.args.bytes.now c.bytes.invariant
    (let low = c.requires.range in omega (arith, low, c.bytes-test.true)) c.write.ensures)
