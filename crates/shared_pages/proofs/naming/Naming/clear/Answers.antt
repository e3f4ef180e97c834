use Rattle.std.proofs.Common.{arith, ◌≡◌, length, ap, ◌<◌, get_or, set, List, ℕ, ◌∙◌, sym, subst}
use Rattle.std.proofs.lemmas.List.{get_or_default}
use Rattle.shared_pages.specs.Counts.{Names, AreCounted, one_less}
use Rattle.shared_pages.proofs.Owners.{occurs_at}
use Rattle.shared_pages.proofs.Named.{used_cleared, cleared}
use Rattle.shared_pages.proofs.naming.Naming.clear.Goals as goal

pub less_but_zero-requires : goal.less_but_zero-requires
less_but_zero-requires c = record {
  owned = λ some.
      let es = c.self.inside.entries.items in
      let entries : es ≡ c.args.self.now.entries = ap (λ (n : Names). n.entries) c.self.view_is in
      let long = ap length entries in
      let h : c.args.at < length es = omega (arith, long) in
      let p_is : c.index.result.now ≡ get_or es c.args.at 0 = c.index.ensures ∙ get_or_default es c.args.at c.index.result.now 0 h in
      let o = occurs_at es c.args.at h in
      let n = c.self.invariant.counted (get_or es c.args.at 0) (omega (arith, p_is, some)) in
      subst (λ (q : ℕ). 0 < get_or c.self.inside.owners q 0) (sym p_is) (omega (arith, o, n));
}

pub invariant_of-self : goal.invariant_of-self
invariant_of-self c =
    let es = c.self.inside.entries.items in
    let owners = c.self.inside.owners in
    let entries : es ≡ c.args.self.now.entries = ap (λ (n : Names). n.entries) c.self.view_is in
    let long = ap length entries in
    let h : c.args.at < length es = omega (arith, long) in
    let p_is : c.index.result.now ≡ get_or es c.args.at 0 = c.index.ensures ∙ get_or_default es c.args.at c.index.result.now 0 h in
    subst (λ (cs : List ℕ). AreCounted (set es c.args.at 0) cs) (sym (c.less_but_zero.ensures
    ∙ ap (one_less owners) p_is)) (cleared es owners c.args.at c.self.invariant h)

pub returns-clause-used : goal.returns-clause-used
returns-clause-used c =
    let es = c.self.inside.entries.items in
    let long = ap (λ (n : Names). length n.entries) c.self.view_is in
    let h : c.args.at < length es = omega (arith, long) in
    rw (← c.self.view_is) (used_cleared es c.self.inside.owners c.args.at c.self.invariant h)
