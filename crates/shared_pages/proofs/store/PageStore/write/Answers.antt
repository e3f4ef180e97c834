use Rattle.am_base.specs.declared.limits.TheConstants.{PAGE_BYTES}
use Rattle.shared_pages.specs.Size.{memory_pages}
use Rattle.std.proofs.Common.{◌≡◌, ◌<◌, ◌+◌, ◌*◌, ◌/◌, ◌%◌, ℕ, true, subst, sym, arith, get_or, set, ap, ◌∙◌}
use Rattle.shared_pages.specs.Store.{Store, IsIn, owns, seen, written}
use Rattle.shared_pages.proofs.Views.{table_in, written_seen, written_kept, own_is, owns_seen}
use Rattle.shared_pages.proofs.store.PageStore.write.Goals as goal

pub entry-page-requires : goal.entry-page-requires
entry-page-requires c =
    let f = c.self.inside in
    let known : IsIn (seen f.slots f.tables f.bytes.items f.peak) c.id.inside.number =
    subst (λ (s : Store). IsIn s c.id.inside.number) (sym c.self.view_is) (subst (λ (m : ℕ). IsIn c.args.self.now m) (sym c.id.view_is) c.requires.known) in
    let range = c.requires.range in
    table_in f.slots f.tables f.bytes.items f.peak c.id.inside.number (c.args.at / PAGE_BYTES) c.self.invariant known (omega (arith, range))

pub invariant_of-self : goal.invariant_of-self
invariant_of-self c =
    let f = c.self.inside in
    let m = c.id.inside.number in
    let known : IsIn (seen f.slots f.tables f.bytes.items f.peak) m =
    subst (λ (s : Store). IsIn s m) (sym c.self.view_is) (subst (λ (k : ℕ). IsIn c.args.self.now k) (sym c.id.view_is) c.requires.known) in
    let own : owns (seen f.slots f.tables f.bytes.items f.peak) m c.args.at ≡ true =
    ap (λ (s : Store). owns s m c.args.at) c.self.view_is ∙ ap (λ (k : ℕ). owns c.args.self.now k c.args.at) c.id.view_is ∙ c.requires.own in
    let is = own_is f.tables.entries (m * memory_pages + c.args.at / PAGE_BYTES) (sym
    (owns_seen f.slots f.tables f.bytes.items f.peak m c.args.at c.self.invariant known c.requires.range) ∙ own) in
    let some = is.0 in
    let page : c.entry-page.result ≡ get_or f.tables.entries (m * memory_pages + c.args.at / PAGE_BYTES) 0 = c.entry-page.ensures.value in
    written_kept f.slots f.tables f.bytes.items f.peak (c.entry-page.result * PAGE_BYTES + c.args.at % PAGE_BYTES) c.args.byte c.self.invariant (omega
    (arith, page, some))

pub returns : goal.returns
returns c =
    let f = c.self.inside in
    let m = c.id.inside.number in
    let known : IsIn (seen f.slots f.tables f.bytes.items f.peak) m =
    subst (λ (s : Store). IsIn s m) (sym c.self.view_is) (subst (λ (k : ℕ). IsIn c.args.self.now k) (sym c.id.view_is) c.requires.known) in
    let own : owns (seen f.slots f.tables f.bytes.items f.peak) m c.args.at ≡ true =
    ap (λ (s : Store). owns s m c.args.at) c.self.view_is ∙ ap (λ (k : ℕ). owns c.args.self.now k c.args.at) c.id.view_is ∙ c.requires.own in
    let page : c.entry-page.result ≡ get_or f.tables.entries (m * memory_pages + c.args.at / PAGE_BYTES) 0 = c.entry-page.ensures.value in
    let low : get_or f.tables.entries (m * memory_pages + c.args.at / PAGE_BYTES) 0 < f.tables.limit = (let below = c.entry-page.ensures.below in omega
    (arith, page, below)) in
    ap (λ (q : ℕ). seen f.slots f.tables (set f.bytes.items (q * PAGE_BYTES + c.args.at % PAGE_BYTES) c.args.byte) f.peak) page
    ∙ written_seen f.slots f.tables f.bytes.items f.peak m c.args.at c.args.byte c.self.invariant known c.requires.range own low
    ∙ ap (λ (s : Store). written s m c.args.at c.args.byte) c.self.view_is
    ∙ ap (λ (k : ℕ). written c.args.self.now k c.args.at c.args.byte) c.id.view_is
