-- Lists with the same counts are permutations of one another, so the executions of a configuration may stand in any order.
use Rattle.std.proofs.Common.{Bool, true, ◌≡◌, ℕ, ◌<◌, cond, List, [], ◌∷◌, ◌++◌, nat_eq, refl, sym, ◌∙◌, arith, subst}
use Rattle.std.specs.List.{count_by, sum_by, flat_map, Contains, remove}
use Rattle.std.specs.List.Sorted.{IsPermutation}
use Rattle.std.proofs.lemmas.Bool.{eq-eqb, eqb-true}
use Rattle.std.proofs.lemmas.List.Sums.{sum_by-append}
use Rattle.std.proofs.lemmas.List.Sorted.{IsPermutation-refl, IsPermutation-sym, IsPermutation-trans, IsPermutation-cons, IsPermutation-remove}
use Rattle.std.proofs.lemmas.List.Sorted.{sum_by-IsPermutation}
use Rattle.std.proofs.lemmas.List.Sorted.{All-permutation}
use Rattle.traces.specs.Trace.{Trial}
use Rattle.traces.specs.Together.{below}
use Rattle.traces.specs.Configuration.{Execution, IsExecution, IsConfiguration}
use Rattle.traces.proofs.Cost.{sum_by-flat_map}
use Rattle.traces.proofs.Bools.{on_bool}
use Rattle.traces.proofs.Lists.{contains_here, contains_there, count_yes, count_no}

-- lists with equal counts of each element, by a test that is equality, are permutations of one another
module _ {X : Type 0} (same : X → X → Bool) (sound : (x y : X) → same x y ≡ true → x ≡ y) (complete : (x : X) → same x x ≡ true) where
  counted_there : (x : X) (xs : List X) → 0 < count_by (same x) xs → Contains xs x
  counted_there x [] h = absurd (let l : 0 < 0 = h in omega arith)
  counted_there x (y ∷ ys) h = on_bool (same x y)
      (λ t. subst (Contains (y ∷ ys)) (sym (sound x y t)) (contains_here y ys))
      (λ f. contains_there y x ys (counted_there x ys (subst (λ n. 0 < n) (count_no (same x) y ys f) h)))

  same_tail : (x y : X) (xs ys : List X) → count_by (same x) (y ∷ xs) ≡ count_by (same x) (y ∷ ys) → count_by (same x) xs ≡ count_by (same x) ys
  same_tail x y xs ys h = on_bool (same x y)
      (λ t. let a = count_yes (same x) y xs t in let b = count_yes (same x) y ys t in omega arith)
      (λ f. sym (count_no (same x) y xs f) ∙ h ∙ count_no (same x) y ys f)

  none_counted : (ys : List X) → ((x : X) → count_by (same x) [] ≡ count_by (same x) ys) → ys ≡ []
  none_counted [] h = refl
  none_counted (y ∷ ys) h = absurd (let a = count_yes (same y) y ys (complete y) in let b : 0 ≡ count_by (same y) (y ∷ ys) = h y in omega arith)

  pub same_counts : (xs ys : List X) → ((x : X) → count_by (same x) xs ≡ count_by (same x) ys) → IsPermutation xs ys
  same_counts [] ys h = subst (IsPermutation []) (sym (none_counted ys h)) (IsPermutation-refl [])
  same_counts (x ∷ xs) ys h =
      let a = count_yes (same x) x xs (complete x) in
      let b : 0 < count_by (same x) ys = (let c = h x in omega arith) in
      let t = counted_there x ys b in
      let p = IsPermutation-remove ys t.0 x t.1 (sym t.2) in
      let e : (z : X) → count_by (same z) (x ∷ remove ys t.0) ≡ count_by (same z) ys =
      (λ z. sum_by-IsPermutation (λ y. cond (same z y) 1 0) ys (x ∷ remove ys t.0) p) in
      IsPermutation-trans (x ∷ xs) (x ∷ remove ys t.0) ys
      (IsPermutation-cons x xs (remove ys t.0) (same_counts xs (remove ys t.0) (λ z. same_tail z x xs (remove ys t.0) (h z ∙ sym (e z)))))
      (IsPermutation-sym ys (x ∷ remove ys t.0) p)

pub from_counts : (xs ys : List ℕ) → ((k : ℕ) → count_by (nat_eq k) xs ≡ count_by (nat_eq k) ys) → IsPermutation xs ys
from_counts = same_counts nat_eq eqb-true (λ k. eq-eqb k k refl)

pub cancel_front : (zs xs ys : List ℕ) → IsPermutation (zs ++ xs) (zs ++ ys) → IsPermutation xs ys
cancel_front zs xs ys p = from_counts xs ys (λ k.
    let f : ℕ → ℕ = λ y. cond (nat_eq k y) 1 0 in
    let a = sum_by-IsPermutation f (zs ++ xs) (zs ++ ys) p in
    let b = sum_by-append f zs xs in let c = sum_by-append f zs ys in
    let d : count_by (nat_eq k) xs ≡ count_by (nat_eq k) ys = omega arith in d)

pub flat_map_moved : {X : Type 0} (f : X → List ℕ) (xs ys : List X) → IsPermutation xs ys → IsPermutation (flat_map f xs) (flat_map f ys)
flat_map_moved f xs ys p = from_counts (flat_map f xs) (flat_map f ys) (λ k.
    let g : ℕ → ℕ = λ y. cond (nat_eq k y) 1 0 in
    sum_by-flat_map g f xs ∙ sym (sum_by-IsPermutation (λ x. sum_by g (f x)) xs ys p) ∙ sym (sum_by-flat_map g f ys))

-- a configuration whose executions change places is one
pub configuration_moved : {S C : Type 0} (T : Trial S C) (es gs : List (Execution S)) → IsPermutation es gs → IsConfiguration T es → IsConfiguration T gs
configuration_moved T es gs p c = record {
  once = IsPermutation-trans (below T.mutants) (flat_map (λ e. e.members) es) (flat_map (λ e. e.members) gs) c.once (flat_map_moved (λ e. e.members) es gs p);
  each = All-permutation (IsExecution T) es gs p c.each;
}
