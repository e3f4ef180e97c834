use Rattle.std.proofs.Common.{◌≡◌, List, ℕ, None, IfOk, subst, sym}
use Rattle.shared_pages.specs.Held.{AreHeld}
use Rattle.shared_pages.specs.Store.{memory}
use Rattle.shared_pages.proofs.HeldSteps.{held_more, held_none}
use Rattle.shared_pages.proofs.tests.hold_forks.Goals as goal

pub forks-init : goal.forks-init
forks-init g c = held_none c.args.store.now c.args.id.now c.args.held.now.items c.requires.known c.requires.none

pub fork-requires : goal.fork-requires
fork-requires g c = record { known = c.forks.invariant.known }

pub forks-preserved : goal.forks-preserved
forks-preserved g c =
    let s = c.forks.store in
    let t = c.fork.new.self in
    let m = c.args.id.now in
    let n = c.expect-fork.result in
    let fresh : memory s n ≡ None = subst (λ r. IfOk r (λ k. memory s k ≡ None)) c.expect-fork.ensures c.fork.ensures.fresh in
    let forked : memory t n ≡ memory s m = subst (λ r. IfOk r (λ k. memory t k ≡ memory s m)) c.expect-fork.ensures c.fork.ensures.forked in
    let others = subst (λ r. IfOk r (λ k. (j : ℕ) → (j ≡ k → ⊥) → memory t j ≡ memory s j)) c.expect-fork.ensures c.fork.ensures.others in
    subst (λ (xs : List ℕ). AreHeld t m xs) (sym c.in-Ok.ensures.items) (held_more s t m n c.forks.held.items c.forks.invariant fresh forked others)
