use Rattle.std.proofs.Common.{◌≡◌, ◌≢◌, ℕ, List, length, get_or, set, arith, ap, sym, ◌∙◌, get_or-set_other, set-set}
use Rattle.shared_pages.specs.Counts.{Names}
use Rattle.shared_pages.proofs.naming.Naming.replace.Goals as goal

pub returns : goal.returns
returns c =
    let es = c.args.self.now.entries in
    let at = c.args.at in
    let from = c.args.from in
    let mid = c.clear.new.self in
    let entries : mid.entries ≡ set es at 0 = c.clear.ensures.entries in
    let named : get_or mid.entries from 0 ≡ get_or es from 0 =
    ap (λ (xs : List ℕ). get_or xs from 0) entries ∙ get_or-set_other es at from 0 0 c.requires.apart in
    let is : set mid.entries at (get_or mid.entries from 0) ≡ set es at (get_or es from 0) =
    ap (set mid.entries at) named ∙ ap (λ (xs : List ℕ). set xs at (get_or es from 0)) entries ∙ set-set es at 0 (get_or es from 0) in
    c.share.ensures ∙ (λ i. record { entries = is i; limit = c.clear.ensures.limit i })
