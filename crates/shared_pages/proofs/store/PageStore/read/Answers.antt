use Rattle.am_base.specs.declared.limits.TheConstants.{PAGE_BYTES}
use Rattle.shared_pages.specs.Size.{memory_pages}
use Rattle.std.proofs.Common.{◌≡◌, ◌+◌, ◌*◌, ◌/◌, ◌%◌, ℕ, subst, sym, arith, get_or, ap, ◌∙◌}
use Rattle.std.proofs.lemmas.List.{get_or_default}
use Rattle.shared_pages.specs.Store.{Store, IsIn, seen, the_memory}
use Rattle.shared_pages.proofs.Views.{table_in, read_seen}
use Rattle.shared_pages.proofs.store.PageStore.read.Goals as goal

pub entry-page-requires : goal.entry-page-requires
entry-page-requires c =
    let f = c.self.inside in
    let known : IsIn (seen f.slots f.tables f.bytes.items f.peak) c.id.inside.number =
    subst (λ (s : Store). IsIn s c.id.inside.number) (sym c.self.view_is) (subst (λ (m : ℕ). IsIn c.args.self.now m) (sym c.id.view_is) c.requires.known) in
    let range = c.requires.range in
    table_in f.slots f.tables f.bytes.items f.peak c.id.inside.number (c.args.at / PAGE_BYTES) c.self.invariant known (omega (arith, range))

pub returns : goal.returns
returns c =
    let f = c.self.inside in
    let known : IsIn (seen f.slots f.tables f.bytes.items f.peak) c.id.inside.number =
    subst (λ (s : Store). IsIn s c.id.inside.number) (sym c.self.view_is) (subst (λ (m : ℕ). IsIn c.args.self.now m) (sym c.id.view_is) c.requires.known) in
    let r = read_seen f.slots f.tables f.bytes.items f.peak c.id.inside.number c.args.at known c.requires.range in
    let b = c.index.ensures in
    let page : c.entry-page.result ≡ get_or f.tables.entries (c.id.inside.number * memory_pages + c.args.at / PAGE_BYTES) 0 = c.entry-page.ensures.value in
    let low = c.entry-page.ensures.below in
    let pages = c.self.invariant.pages in
    let d = get_or_default f.bytes.items (c.entry-page.result * PAGE_BYTES + c.args.at % PAGE_BYTES) c.index.result.now 0 (omega (arith, low, pages)) in
    let seen_is : get_or (the_memory (seen f.slots f.tables f.bytes.items f.peak) c.id.inside.number).bytes c.args.at 0 ≡ get_or
    (the_memory c.args.self.now c.args.id.now).bytes c.args.at 0 =
    ap (λ (s : Store). get_or (the_memory s c.id.inside.number).bytes c.args.at 0) c.self.view_is
    ∙ ap (λ (m : ℕ). get_or (the_memory c.args.self.now m).bytes c.args.at 0) c.id.view_is in
    b ∙ d ∙ ap (λ (q : ℕ). get_or f.bytes.items (q * PAGE_BYTES + c.args.at % PAGE_BYTES) 0) page ∙ sym r ∙ seen_is
