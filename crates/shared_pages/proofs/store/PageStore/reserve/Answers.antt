use Rattle.am_base.specs.declared.limits.TheConstants.{MEMORY_BYTES, PAGE_BYTES}
use Rattle.std.proofs.Common.{◌<◌, ◌/◌, ℕ, List, refl, subst, sym, take, arith, get_or, ap, ◌∙◌, inl, inr}
use Rattle.std.proofs.lemmas.List.{get_or_default, take_more}
use Rattle.std.proofs.lemmas.Bool.{cases_lt}
use Rattle.shared_pages.specs.Store.{Store, IsReserved, owns, used_pages}
use Rattle.shared_pages.proofs.ReserveSteps.{nothing_reserved, reserved_more, reserved_whole}
use Rattle.shared_pages.proofs.Views.{used_seen}
use Rattle.shared_pages.proofs.store.PageStore.reserve.Goals as goal

pub addresses-init : goal.addresses-init
addresses-init c =
    let f = c.self.inside in
    let most = c.self.invariant.most in
    let seen_is = used_seen f.slots f.tables f.bytes.items f.peak c.self.invariant in
    let used = ap used_pages c.self.view_is in
    let peak = ap (λ (s : Store). s.peak) c.self.view_is in
    record {
      own = λ k h. absurd (omega (arith, h));
      reserved = nothing_reserved c.args.self.now c.args.id.now c.requires.known (omega (arith, most, seen_is, used, peak));
    }

pub returns-in_err-take_page-clause-reserved : goal.returns-in_err-take_page-clause-reserved
returns-in_err-take_page-clause-reserved c =
    subst (λ (s : Store). IsReserved c.args.self.now s c.args.id.now c.args.at.now) (sym c.in_err-take_page.ensures.err)
    (reserved_whole c.args.self.now c.addresses.self c.args.id.now c.addresses.address-index c.args.at.now c.addresses.invariant.reserved)

pub addresses-preserved : goal.addresses-preserved
addresses-preserved c =
    let at = c.args.at.now in
    let n = c.addresses.address-index in
    let m = c.args.id.now in
    let made = c.in_ok-take_page.ensures.taken in
    let a = get_or at n 0 in
    let low : a < MEMORY_BYTES = c.requires.range n 0 c.addresses-test.true in
    let more = reserved_more c.args.self.now c.addresses.self c.take_page.new.self m (a / PAGE_BYTES) a
    (take n at) c.addresses.invariant.reserved refl (omega (arith, low)) made in
    record {
      own = λ k h. elim (cases_lt k n) [
        | inl below ↦ made.grown m (get_or at k 0 / PAGE_BYTES) (c.addresses.invariant.own k below)
        | inr high ↦ ap (λ (j : ℕ). owns c.take_page.new.self m (get_or at j 0)) (omega (arith, h, high)) ∙ made.own
      ];
      reserved = subst (λ (xs : List ℕ). IsReserved c.args.self.now c.take_page.new.self m xs) (sym (take_more at n 0 c.addresses-test.true)) more;
    }

pub returns-clause-own : goal.returns-clause-own
returns-clause-own c k d h =
    ap (λ (a : ℕ). owns c.addresses.self c.args.id.now a) (get_or_default c.args.at.now k d 0 h)
    ∙ c.addresses.invariant.own k (omega (arith, h, c.addresses-test.false))
