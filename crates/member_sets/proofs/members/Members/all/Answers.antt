use Rattle.std.proofs.Common.{◌≡◌, ℕ, List, [], ◌∷◌, ◌++◌, ◌+◌, ◌≤◌, ◌<◌, add-one, subst, sym, ap, ◌∙◌, arith}
use Rattle.std.specs.Prelude.{IfOk}
use Rattle.std.proofs.lemmas.List.Elements.{Contains-get_or}
use Rattle.am_base.specs.declared.limits.TheConstants.{MAX_MUTANTS}
use Rattle.traces.specs.Together.{below}
use Rattle.traces.proofs.Below.{below_below, length-below, IsStrictlyIncreasing-below}
use Rattle.member_sets.specs.Members.{IsMemberList}
use Rattle.member_sets.proofs.members.Members.all.Goals as goal

one_more : (n : ℕ) (xs ys : List ℕ) → ys ≡ xs ++ n ∷ [] → xs ≡ below n → ys ≡ below (n + 1)
one_more n xs ys p e = rw add-one (p ∙ ap (λ zs. zs ++ n ∷ []) e)

all_below : (n : ℕ) → 1 ≤ n → n ≤ MAX_MUTANTS → IsMemberList (below n)
all_below n s f = let l = length-below n in record {
  some = omega arith;
  few = omega arith;
  rising = IsStrictlyIncreasing-below n;
  within = λ k d b. let h = below_below n _ (Contains-get_or (below n) k d b) in omega arith;
}

pub loop-m-preserved : goal.loop-m-preserved
loop-m-preserved c = one_more c.loop-m.m _ _ c.in_ok-push.ensures.items c.loop-m.invariant

pub set_of-requires : goal.set_of-requires
set_of-requires c =
    let whole = c.deref.ensures.value ∙ c.loop-m.invariant ∙ ap below (let e : c.loop-m.m ≡ c.args.n = omega (arith, c.loop-m-test.false, c.loop-m.auto.m-end) in e) in
    subst IsMemberList (sym whole) (all_below c.args.n c.requires.some c.requires.few)

pub returns : goal.returns
returns c =
    let whole = c.deref.ensures.value ∙ c.loop-m.invariant ∙ ap below (let e : c.loop-m.m ≡ c.args.n = omega (arith, c.loop-m-test.false, c.loop-m.auto.m-end) in e) in
    subst (λ (xs : List ℕ). IfOk c.set_of.result (λ members. members ≡ xs)) whole c.set_of.ensures
