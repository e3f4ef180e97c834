use Rattle.std.proofs.Common.{arith, ◌≡◌, length, ap, ◌<◌, ◌+◌, List, ℕ, get_or, set, subst, sym, ◌∙◌}
use Rattle.std.proofs.lemmas.List.{get_or_default}
use Rattle.shared_pages.specs.Counts.{AreCounted, Names, different, one_less, IsShared}
use Rattle.shared_pages.proofs.Owners.{below_from_free}
use Rattle.shared_pages.proofs.Named.{seen_renewed, used_renewed, names_of, renewed, set_more, used_counted}
use Rattle.shared_pages.proofs.Refused.{if_none}
use Rattle.shared_pages.proofs.naming.Naming.renew.Goals as goal

pub returns-clause-some : goal.returns-clause-some
returns-clause-some c =
    let es = c.self.inside.entries.items in
    let p = c.in_ok-p.p in
    let entries : es ≡ c.args.self.now.entries = ap (λ (n : Names). n.entries) c.self.view_is in
    let h : c.args.at < length es = let long = ap length entries in omega (arith, long) in
    let old_is : c.index.result.now ≡ get_or es c.args.at 0 = c.index.ensures ∙ get_or_default es c.args.at c.index.result.now 0 h in
    rw (← c.self.view_is)
    (ap (λ (cs : List ℕ). names_of (set es c.args.at p) cs) (c.less_but_zero.ensures
    ∙ ap (λ (cs : List ℕ). one_less cs c.index.result.now) c.in_ok-p.ensures.taken
    ∙ ap (λ (q : ℕ). one_less (set c.self.inside.owners p 1) q) old_is)
    ∙ seen_renewed es c.self.inside.owners c.args.at p)

pub returns-clause-used : goal.returns-clause-used
returns-clause-used c =
    let es = c.self.inside.entries.items in
    let p = c.in_ok-p.p in
    let entries : es ≡ c.args.self.now.entries = ap (λ (n : Names). n.entries) c.self.view_is in
    let shared : IsShared es c.args.at = subst (λ (xs : List ℕ). IsShared xs c.args.at) (sym entries) c.requires.shared in
    let h : c.args.at < length es = let long = ap length entries in omega (arith, long) in
    let below = below_from_free c.self.inside.owners p c.in_ok-p.ensures.free in
    used_renewed es c.self.inside.owners c.args.at p c.self.invariant h shared c.in_ok-p.ensures.other below c.in_ok-p.ensures.free
    ∙ ap (λ (xs : List ℕ). different xs + 1) entries

pub returns-in_err-p-clause-full : goal.returns-in_err-p-clause-full
returns-in_err-p-clause-full c =
    let es = c.self.inside.entries.items in
    let owners = c.self.inside.owners in
    let used = used_counted es owners c.self.invariant in
    let none = c.in_err-p.ensures.full in
    if_none c.from_residual.result (sym (ap (λ (n : Names). n.limit) c.self.view_is)
    ∙ (let e : length owners ≡ different es + 1 = omega (arith, used, none) in e) ∙ ap (λ (n : Names). different n.entries + 1) c.self.view_is)

pub invariant_of-self-2 : goal.invariant_of-self-2
invariant_of-self-2 c =
    let es = c.self.inside.entries.items in
    let owners = c.self.inside.owners in
    let p = c.in_ok-p.p in
    let entries : es ≡ c.args.self.now.entries = ap (λ (n : Names). n.entries) c.self.view_is in
    let shared : IsShared es c.args.at = subst (λ (xs : List ℕ). IsShared xs c.args.at) (sym entries) c.requires.shared in
    let h : c.args.at < length es = let long = ap length entries in omega (arith, long) in
    let below = below_from_free owners p c.in_ok-p.ensures.free in
    let old_is : c.index.result.now ≡ get_or es c.args.at 0 = c.index.ensures ∙ get_or_default es c.args.at c.index.result.now 0 h in
    let cs_is : c.less_but_zero.new.self ≡ one_less (set owners p 1) (get_or es c.args.at 0) =
    c.less_but_zero.ensures ∙ ap (λ (cs : List ℕ). one_less cs c.index.result.now) c.in_ok-p.ensures.taken
    ∙ ap (λ (q : ℕ). one_less (set owners p 1) q) old_is in
    subst (λ (cs : List ℕ). AreCounted (set es c.args.at p) cs) (sym cs_is)
    (renewed es owners (set owners p 1) c.args.at p c.self.invariant h shared c.in_ok-p.ensures.other (set_more owners p below c.in_ok-p.ensures.free))
