use Rattle.shared_pages.specs.Size.{memory_pages}
use Rattle.std.proofs.Common.{◌≡◌, ◌+◌, ◌*◌, ℕ, false, sym, arith, get_or, ap, ◌∙◌}
use Rattle.shared_pages.specs.Store.{IsMadeOwn, seen, own_at}
use Rattle.shared_pages.proofs.Already.{own_already}
use Rattle.shared_pages.proofs.Named.{shared_when}
use Rattle.shared_pages.proofs.PageSteps.{made_own, renewed_store}
use Rattle.shared_pages.proofs.Views.{known_in, in_view, table_in, live_at, own_is, own_seen, used_seen}
use Rattle.shared_pages.proofs.store.PageStore.take_page.Goals as goal

pub is_own-requires : goal.is_own-requires
is_own-requires c =
    let f = c.self.inside in
    let m = c.id.inside.number in
    let known = known_in (seen f.slots f.tables f.bytes.items f.peak) c.args.self.now m c.args.id.now c.self.view_is c.id.view_is c.requires.known in
    table_in f.slots f.tables f.bytes.items f.peak m c.args.page c.self.invariant known c.requires.range

pub returns-then-is_own-clause-taken : goal.returns-then-is_own-clause-taken
returns-then-is_own-clause-taken c =
    let f = c.self.inside in
    let m = c.id.inside.number in
    let i = c.args.page in
    let s = seen f.slots f.tables f.bytes.items f.peak in
    let known = known_in s c.args.self.now m c.args.id.now c.self.view_is c.id.view_is c.requires.known in
    let own = sym c.is_own.ensures ∙ c.if-is_own.true in
    let used = used_seen f.slots f.tables f.bytes.items f.peak c.self.invariant in
    let most = c.self.invariant.most in
    in_view (λ t k. IsMadeOwn t t k i) s c.args.self.now m c.args.id.now c.self.view_is c.id.view_is
    (own_already s m i known (own_seen f.slots f.tables f.bytes.items f.peak m i c.self.invariant known c.requires.range ∙ own) (omega (arith, used, most)))

pub copied_page-requires-clause-place : goal.copied_page-requires-clause-place
copied_page-requires-clause-place c =
    let f = c.self.inside in
    let m = c.id.inside.number in
    let known = known_in (seen f.slots f.tables f.bytes.items f.peak) c.args.self.now m c.args.id.now c.self.view_is c.id.view_is c.requires.known in
    table_in f.slots f.tables f.bytes.items f.peak m c.args.page c.self.invariant known c.requires.range

pub copied_page-requires-clause-shared : goal.copied_page-requires-clause-shared
copied_page-requires-clause-shared c =
    let f = c.self.inside in
    let m = c.id.inside.number in
    let known = known_in (seen f.slots f.tables f.bytes.items f.peak) c.args.self.now m c.args.id.now c.self.view_is c.id.view_is c.requires.known in
    shared_when f.tables.entries (m * memory_pages + c.args.page)
    (table_in f.slots f.tables f.bytes.items f.peak m c.args.page c.self.invariant known c.requires.range) (sym c.is_own.ensures ∙ c.if-is_own.false)

pub invariant_of-self-2 : goal.invariant_of-self-2
invariant_of-self-2 c =
    let f = c.self.inside in
    let m = c.id.inside.number in
    let known = known_in (seen f.slots f.tables f.bytes.items f.peak) c.args.self.now m c.args.id.now c.self.view_is c.id.view_is c.requires.known in
    let done = c.in_ok-copied_page.ensures in
    renewed_store f.slots f.tables c.copied_page.new.tables f.bytes.items c.copied_page.new.bytes.items f.peak c.max-self-inside.result m c.args.page
    c.in_ok-copied_page.field-0
    c.self.invariant done.ok c.requires.range (live_at f.slots f.tables.entries f.bytes.items m known) done.pages c.copied_page.ensures.longer (omega
    (arith, c.max-self-inside.ensures, c.used.ensures))

pub returns-clause-taken : goal.returns-clause-taken
returns-clause-taken c =
    let f = c.self.inside in
    let m = c.id.inside.number in
    let i = c.args.page in
    let s = seen f.slots f.tables f.bytes.items f.peak in
    let t = seen f.slots c.copied_page.new.tables c.copied_page.new.bytes.items c.max-self-inside.result in
    let known = known_in s c.args.self.now m c.args.id.now c.self.view_is c.id.view_is c.requires.known in
    let shared = sym c.is_own.ensures ∙ c.if-is_own.false in
    in_view (λ r k. IsMadeOwn r t k i) s c.args.self.now m c.args.id.now c.self.view_is c.id.view_is
    (made_own f.slots f.tables c.copied_page.new.tables f.bytes.items c.copied_page.new.bytes.items f.peak c.max-self-inside.result m i
    c.in_ok-copied_page.field-0 c.self.invariant (invariant_of-self-2 c) c.in_ok-copied_page.ensures.ok known c.requires.range shared
    c.in_ok-copied_page.ensures.used (omega (arith, c.max-self-inside.ensures, c.used.ensures)))
