use Rattle.std.proofs.Common.{arith, ◌≡◌, length, ap, ◌<◌, get_or, set, List, ℕ, ◌∙◌, sym, subst}
use Rattle.std.proofs.lemmas.List.{get_or_default}
use Rattle.shared_pages.specs.Counts.{Names, AreCounted, one_more}
use Rattle.shared_pages.proofs.Owners.{occurs_at}
use Rattle.shared_pages.proofs.Named.{few_owners, shares, seen_shared, names_of}
use Rattle.shared_pages.proofs.naming.Naming.share.Goals as goal

pub more_but_zero-requires : goal.more_but_zero-requires
more_but_zero-requires c =
    let es = c.self.inside.entries.items in
    let entries : es ≡ c.args.self.now.entries = ap (λ (n : Names). n.entries) c.self.view_is in
    let long = ap length entries in
    let h : c.args.from < length es = omega (arith, long) in
    let k : c.args.at < length es = omega (arith, long) in
    let p_is : c.index-p.result.now ≡ get_or es c.args.from 0 = c.index-p.ensures ∙ get_or_default es c.args.from c.index-p.result.now 0 h in
    let empty : get_or es c.args.at 0 ≡ 0 = ap (λ (xs : List ℕ). get_or xs c.args.at 0) entries ∙ c.requires.empty in
    record {
      owned = λ some.
          let o = occurs_at es c.args.from h in
          let n = c.self.invariant.counted (get_or es c.args.from 0) (omega (arith, p_is, some)) in
          subst (λ (q : ℕ). 0 < get_or c.self.inside.owners q 0) (sym p_is) (omega (arith, o, n));
      room = λ some.
          let few = few_owners es c.self.inside.owners c.index-p.result.now c.args.at c.self.invariant some k empty in
          omega (arith, few, long, c.requires.few);
    }

pub invariant_of-self : goal.invariant_of-self
invariant_of-self c =
    let es = c.self.inside.entries.items in
    let owners = c.self.inside.owners in
    let entries : es ≡ c.args.self.now.entries = ap (λ (n : Names). n.entries) c.self.view_is in
    let long = ap length entries in
    let h : c.args.from < length es = omega (arith, long) in
    let k : c.args.at < length es = omega (arith, long) in
    let p_is : c.index-p.result.now ≡ get_or es c.args.from 0 = c.index-p.ensures ∙ get_or_default es c.args.from c.index-p.result.now 0 h in
    let empty : get_or es c.args.at 0 ≡ 0 = ap (λ (xs : List ℕ). get_or xs c.args.at 0) entries ∙ c.requires.empty in
    subst (λ (cs : List ℕ). AreCounted (set es c.args.at c.index-p.result.now) cs) (sym c.more_but_zero.ensures)
    (subst (λ (q : ℕ). AreCounted (set es c.args.at q) (one_more owners q)) (sym p_is) (shares es owners c.args.from c.args.at c.self.invariant h k empty))

pub returns : goal.returns
returns c =
    let es = c.self.inside.entries.items in
    let owners = c.self.inside.owners in
    let entries : es ≡ c.args.self.now.entries = ap (λ (n : Names). n.entries) c.self.view_is in
    let long = ap length entries in
    let h : c.args.from < length es = omega (arith, long) in
    let p_is : c.index-p.result.now ≡ get_or es c.args.from 0 = c.index-p.ensures ∙ get_or_default es c.args.from c.index-p.result.now 0 h in
    rw (← c.self.view_is)
    (ap (λ (cs : List ℕ). names_of (set es c.args.at c.index-p.result.now) cs) c.more_but_zero.ensures
    ∙ ap (λ (q : ℕ). names_of (set es c.args.at q) (one_more owners q)) p_is
    ∙ seen_shared es owners c.args.from c.args.at)
