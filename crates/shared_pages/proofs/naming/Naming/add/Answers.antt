use Rattle.std.proofs.Common.{arith, ◌≡◌, length, ap, ◌<◌, ◌+◌, List, ◌++◌, ◌∷◌, [], ℕ, get_or, set, subst, sym, ◌∙◌}
use Rattle.std.proofs.lemmas.List.{get_or_default}
use Rattle.shared_pages.specs.Counts.{Names, AreCounted, different, one_less, IsShared}
use Rattle.shared_pages.proofs.Named.{none_names_limit, renewed, seen_added, used_added, grown_more, names_of, below_nonzero}
use Rattle.shared_pages.proofs.naming.Naming.add.Goals as goal

pub invariant_of-self-2 : goal.invariant_of-self-2
invariant_of-self-2 c =
    let es = c.self.inside.entries.items in
    let owners = c.self.inside.owners in
    let entries : es ≡ c.args.self.now.entries = ap (λ (n : Names). n.entries) c.self.view_is in
    let shared : IsShared es c.args.at = subst (λ (xs : List ℕ). IsShared xs c.args.at) (sym entries) c.requires.shared in
    let h : c.args.at < length es = let long = ap length entries in omega (arith, long) in
    let old_is : c.index.result.now ≡ get_or es c.args.at 0 = c.index.ensures ∙ get_or_default es c.args.at c.index.result.now 0 h in
    let p_is : c.len-p.result ≡ length owners = c.len-p.ensures.length in
    let some = below_nonzero owners 0 c.self.invariant.first in
    let cs_is : c.less_but_zero.new.self ≡ one_less (owners ++ 1 ∷ []) (get_or es c.args.at 0) =
    c.less_but_zero.ensures ∙ ap (λ (cs : List ℕ). one_less cs c.index.result.now) c.in_ok-grow.ensures.ok
    ∙ ap (λ (q : ℕ). one_less (owners ++ 1 ∷ []) q) old_is in
    subst (λ (cs : List ℕ). AreCounted (set es c.args.at c.len-p.result) cs) (sym cs_is)
    (subst (λ (p : ℕ). AreCounted (set es c.args.at p) (one_less (owners ++ 1 ∷ []) (get_or es c.args.at 0))) (sym p_is)
    (renewed es owners (owners ++ 1 ∷ []) c.args.at (length owners) c.self.invariant h shared some (grown_more owners)))

pub returns-clause-ok : goal.returns-clause-ok
returns-clause-ok c =
    let es = c.self.inside.entries.items in
    let owners = c.self.inside.owners in
    let h : c.args.at < length es = let long = ap (λ (n : Names). length n.entries) c.self.view_is in omega (arith, long) in
    let old_is : c.index.result.now ≡ get_or es c.args.at 0 = c.index.ensures ∙ get_or_default es c.args.at c.index.result.now 0 h in
    let cs_is : c.less_but_zero.new.self ≡ one_less (owners ++ 1 ∷ []) (get_or es c.args.at 0) =
    c.less_but_zero.ensures ∙ ap (λ (cs : List ℕ). one_less cs c.index.result.now) c.in_ok-grow.ensures.ok
    ∙ ap (λ (q : ℕ). one_less (owners ++ 1 ∷ []) q) old_is in
    rw (← c.self.view_is)
    (ap (λ (cs : List ℕ). names_of (set es c.args.at c.len-p.result) cs) cs_is
    ∙ ap (λ (p : ℕ). names_of (set es c.args.at p) (one_less (owners ++ 1 ∷ []) (get_or es c.args.at 0))) c.len-p.ensures.length
    ∙ seen_added es owners c.args.at)

pub returns-clause-used : goal.returns-clause-used
returns-clause-used c =
    let es = c.self.inside.entries.items in
    let owners = c.self.inside.owners in
    let entries : es ≡ c.args.self.now.entries = ap (λ (n : Names). n.entries) c.self.view_is in
    let shared : IsShared es c.args.at = subst (λ (xs : List ℕ). IsShared xs c.args.at) (sym entries) c.requires.shared in
    let h : c.args.at < length es = let long = ap length entries in omega (arith, long) in
    ap (λ (p : ℕ). different (set es c.args.at p)) c.len-p.ensures.length
    ∙ used_added es owners c.args.at c.self.invariant h shared
    ∙ ap (λ (xs : List ℕ). different xs + 1) entries

pub returns-clause-unnamed : goal.returns-clause-unnamed
returns-clause-unnamed c =
    rw (← c.self.view_is) (none_names_limit c.self.inside.entries.items c.self.inside.owners c.self.invariant)
