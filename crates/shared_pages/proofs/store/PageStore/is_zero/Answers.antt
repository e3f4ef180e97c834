use Rattle.am_base.specs.declared.limits.TheConstants.{PAGE_BYTES}
use Rattle.std.proofs.Common.{◌≤◌, ℕ, List, length, take, sym, ◌∙◌, subst}
use Rattle.std.specs.Prelude.{IsTrue, ◌↔◌, ◌≢◌}
use Rattle.std.proofs.lemmas.List.{length-take-le}
use Rattle.shared_pages.proofs.Openings.{zero_test}
use Rattle.shared_pages.proofs.store.PageStore.is_zero.Goals as goal

pub slice_bounds-page_differs-end : goal.slice_bounds-page_differs-end
slice_bounds-page_differs-end c =
    sym (length-take-le PAGE_BYTES c.deref.result.now (subst (λ (xs : List ℕ). PAGE_BYTES ≤ length xs) (sym c.deref.ensures.value) c.self.invariant.room))

pub page_differs-requires : goal.page_differs-requires
page_differs-requires c = sym (slice_bounds-page_differs-end c) ∙ sym c.requires

pub returns : goal.returns
returns c =
    zero_test c.self.inside.bytes.items c.args.page.now c.self.invariant.zero c.self.invariant.room c.requires c.page_differs.result
    (subst (λ (xs : List ℕ). IsTrue c.page_differs.result ↔ (c.args.page.now ≢ take PAGE_BYTES xs)) c.deref.ensures.value c.page_differs.ensures)
