use Rattle.am_base.specs.declared.limits.TheConstants.{PAGE_BYTES}
use Rattle.std.proofs.Common.{◌≡◌, ◌/◌, ◌∷◌, [], ℕ, None, true, IfOk, OnOk, arith, subst, sym, ap, ◌∙◌}
use Rattle.std.specs.Prelude.{is_some}
use Rattle.std.specs.List.{All}
use Rattle.shared_pages.specs.Opening.{IsBegun}
use Rattle.shared_pages.specs.Store.{Store, IsIn, memory, owns}
use Rattle.shared_pages.proofs.HeldSteps.{not_in}
use Rattle.shared_pages.proofs.Laws.{written_own}
use Rattle.shared_pages.proofs.Openings.{written_other}
use Rattle.shared_pages.proofs.tests.shares.Goals as goal

pub write-requires-clause-own : goal.write-requires-clause-own
write-requires-clause-own g c =
    let own = subst (λ r. OnOk r (All (λ a. owns c.reserve.new.self c.expect-new.result a ≡ true) (2053 ∷ 0 ∷ 2054 ∷ []))) c.expect.ensures
    c.reserve.ensures.own in
    own 0 0 (omega arith)

pub write-requires-2-clause-own : goal.write-requires-2-clause-own
write-requires-2-clause-own g c =
    let n = c.expect-new.result in
    let own = subst (λ r. OnOk r (All (λ a. owns c.reserve.new.self n a ≡ true) (2053 ∷ 0 ∷ 2054 ∷ []))) c.expect.ensures c.reserve.ensures.own in
    ap (λ (s : Store). owns s n 0) c.write.ensures
    ∙ written_own c.reserve.new.self n 2053 8 c.reserve.ensures.reserved.alive n (0 / PAGE_BYTES)
    ∙ own 1 0 (omega arith)

pub read-requires-2-clause-known : goal.read-requires-2-clause-known
read-requires-2-clause-known g c =
    let m = c.expect-old.result in
    let n = c.expect-new.result in
    let begun = subst (λ r. IfOk r (λ k. IsBegun c.begin.new.self k c.deref.result.now)) c.expect-old.ensures c.begin.ensures.begun in
    let fresh : memory c.begin.new.self n ≡ None =
    subst (λ r. IfOk r (λ k. memory c.begin.new.self k ≡ None)) c.expect-new.ensures c.fork.ensures.fresh in
    let apart : m ≡ n → ⊥ = (λ e. not_in c.begin.new.self n fresh (subst (IsIn c.begin.new.self) e begun.alive)) in
    let others = subst (λ r. IfOk r (λ k. (j : ℕ) → (j ≡ k → ⊥) → memory c.fork.new.self j ≡ memory c.begin.new.self j)) c.expect-new.ensures
    c.fork.ensures.others in
    ap is_some (ap (λ (s : Store). memory s m) c.write-2.ensures ∙ written_other c.write.new.self n 0 3 m apart
    ∙ ap (λ (s : Store). memory s m) c.write.ensures ∙ written_other c.reserve.new.self n 2053 8 m apart
    ∙ c.reserve.ensures.reserved.others m apart ∙ others m apart) ∙ begun.alive

pub release-requires : goal.release-requires
release-requires g c =
    let m = c.expect-old.result in
    let n = c.expect-new.result in
    let begun = subst (λ r. IfOk r (λ k. IsBegun c.begin.new.self k c.deref.result.now)) c.expect-old.ensures c.begin.ensures.begun in
    let fresh : memory c.begin.new.self n ≡ None =
    subst (λ r. IfOk r (λ k. memory c.begin.new.self k ≡ None)) c.expect-new.ensures c.fork.ensures.fresh in
    let apart : m ≡ n → ⊥ = (λ e. not_in c.begin.new.self n fresh (subst (IsIn c.begin.new.self) e begun.alive)) in
    let others = subst (λ r. IfOk r (λ k. (j : ℕ) → (j ≡ k → ⊥) → memory c.fork.new.self j ≡ memory c.begin.new.self j)) c.expect-new.ensures
    c.fork.ensures.others in
    record {
      known = ap is_some (c.reserve-2.ensures.reserved.others m apart
          ∙ ap (λ (s : Store). memory s m) c.write-2.ensures ∙ written_other c.write.new.self n 0 3 m apart
          ∙ ap (λ (s : Store). memory s m) c.write.ensures ∙ written_other c.reserve.new.self n 2053 8 m apart
          ∙ c.reserve.ensures.reserved.others m apart ∙ others m apart) ∙ begun.alive;
    }

pub read-requires-5-clause-known : goal.read-requires-5-clause-known
read-requires-5-clause-known g c =
    let m = c.expect-old.result in
    let n = c.expect-new.result in
    let begun = subst (λ r. IfOk r (λ k. IsBegun c.begin.new.self k c.deref.result.now)) c.expect-old.ensures c.begin.ensures.begun in
    let fresh : memory c.begin.new.self n ≡ None =
    subst (λ r. IfOk r (λ k. memory c.begin.new.self k ≡ None)) c.expect-new.ensures c.fork.ensures.fresh in
    ap is_some (c.release.ensures.others n (λ e. not_in c.begin.new.self n fresh (subst (IsIn c.begin.new.self) (sym e) begun.alive)))
    ∙ c.reserve-2.ensures.reserved.alive
