-- A list that is sorted is the list in order.
use Rattle.std.proofs.Common.{◌≡◌, ℕ, suc, ◌<◌, ◌≤◌, true, false, Bool, nat_eq, ◌==◌, nat_cmp, List, [], ◌∷◌, map, get_or, slice_index, refl, sym, ap, ◌∙◌}
use Rattle.std.proofs.Common.{subst, arith, ⊎_elim, cond, IsPermutation, Ordering}
use Rattle.std.specs.List.{AllPairs, Contains, count_by}
use Rattle.std.specs.Ordering.{is_lt, ordering_then}
use Rattle.std.specs.Fn.{ComputesKey, Called}
use Rattle.std.specs.List.Sorted.{IsSortedByKey}
use Rattle.std.proofs.lemmas.Bool.{lt-ltb, le-ltb, eq-eqb, cases_lt, true≢false, and_parts, and_from, eqb-true}
use Rattle.std.proofs.lemmas.Cmp.{nat_cmp_total, then_total, on_total}
use Rattle.std.proofs.lemmas.List.{get_or-map}
use Rattle.std.proofs.lemmas.List.Sorted.{ranks_by, sorted_far, sum_by-IsPermutation, IsPermutation-map}
use Rattle.std.proofs.lemmas.Fn.{always_returns_same}
use Rattle.traces.proofs.Bools.{on_bool}
use Rattle.traces.proofs.Lists.{contains_cases, contains_here, contains_there, count_yes, count_no}
use Rattle.traces.specs.Cost.{same_split}
use Rattle.traces.proofs.Steps.{length_map}
use Rattle.traces.proofs.Together.{lists_sound, lists_same}
use Rattle.std.specs.Cmp.Lexicographic.{pointwise}
use denote.Param.Members.{Mut}
use denote.Ref.{Bor}
use Rattle.exec_core.specs.Engines.{split_seen}
use Rattle.traces.specs.Splits.{IsEarlier}
use Rattle.exec_core.specs.declared.result.Split.{Split}

all_tail : {X : Type 0} (R : X → X → Type 0) (x : X) (xs : List X) → AllPairs R (x ∷ xs) → AllPairs R xs
all_tail R x xs a i j d h l = a (suc i) (suc j) d (omega arith) (omega arith)

all_head : {X : Type 0} (R : X → X → Type 0) (x : X) (xs : List X) → AllPairs R (x ∷ xs) → (y : X) → Contains xs y → R x y
all_head R x xs a y (i, l, e) = subst (R x) e (a 0 (suc i) y (omega arith) (omega arith))

-- lists with equal counts, one in order by a test and the other never against it, are one list
module _ {X : Type 0} (same : X → X → Bool) (sound : (x y : X) → same x y ≡ true → x ≡ y) (complete : (x : X) → same x x ≡ true) (lt : X → X → Bool) where
  counted : (x : X) (xs : List X) → 0 < count_by (same x) xs → Contains xs x
  counted x [] h = absurd (let l : 0 < 0 = h in omega arith)
  counted x (y ∷ ys) h = on_bool (same x y) (λ t. subst (Contains (y ∷ ys)) (sym (sound x y t)) (contains_here y ys))
      (λ f. contains_there y x ys (counted x ys (subst (λ n. 0 < n) (count_no (same x) y ys f) h)))

  counts_tail : (x y : X) (xs ys : List X) → count_by (same x) (y ∷ xs) ≡ count_by (same x) (y ∷ ys) → count_by (same x) xs ≡ count_by (same x) ys
  counts_tail x y xs ys h = on_bool (same x y) (λ t. let a = count_yes (same x) y xs t in let b = count_yes (same x) y ys t in omega arith)
      (λ f. sym (count_no (same x) y xs f) ∙ h ∙ count_no (same x) y ys f)

  pub sorted_same : (ys zs : List X) → AllPairs (λ a b. lt b a ≡ false) ys → AllPairs (λ a b. lt a b ≡ true) zs
      → ((x : X) → count_by (same x) ys ≡ count_by (same x) zs) → ys ≡ zs
  sorted_same [] [] a b h = refl
  sorted_same [] (z ∷ zs) a b h = absurd (let n = count_yes (same z) z zs (complete z) in let m : 0 ≡ count_by (same z) (z ∷ zs) = h z in omega arith)
  sorted_same (y ∷ ys) [] a b h = absurd (let n = count_yes (same y) y ys (complete y) in let m : count_by (same y) (y ∷ ys) ≡ 0 = h y in omega arith)
  sorted_same (y ∷ ys) (z ∷ zs) a b h =
      let there : Contains (z ∷ zs) y = counted y (z ∷ zs) (let n = count_yes (same y) y ys (complete y) in let m = h y in omega arith) in
      let back : Contains (y ∷ ys) z = counted z (y ∷ ys) (let n = count_yes (same z) z zs (complete z) in let m = h z in omega arith) in
      let e : y ≡ z = ⊎_elim (λ (p : y ≡ z). p)
      (λ (c : Contains ys z). ⊎_elim (λ (p : z ≡ y). sym p)
      (λ (d : Contains zs y). absurd (true≢false (sym (all_head (λ u v. lt u v ≡ true) z zs b y d) ∙ all_head (λ u v. lt v u ≡ false) y ys a z c)))
      (contains_cases z y zs there)) (contains_cases y z ys back) in
      let tails = sorted_same ys zs (all_tail (λ u v. lt v u ≡ false) y ys a) (all_tail (λ u v. lt u v ≡ true) z zs b)
      (λ x. counts_tail x y ys zs (h x ∙ ap (λ w. count_by (same x) (w ∷ zs)) (sym e))) in
      ap (λ w. w ∷ ys) e ∙ ap (λ ws. z ∷ ws) tails

abbrev pub pair_cmp : ℕ × ℕ → ℕ × ℕ → Ordering
pair_cmp x y = ordering_then (nat_cmp x.0 y.0) (nat_cmp x.1 y.1)

abbrev pub split_key : ℕ × List ℕ → ℕ × ℕ
split_key s = (s.0, slice_index s.1 0)

abbrev pub before : ℕ × List ℕ → ℕ × List ℕ → Bool
before s t = is_lt (pair_cmp (split_key s) (split_key t))

lower : (a b c d : ℕ) → a < b → is_lt (pair_cmp (a, c) (b, d)) ≡ true
lower a b c d h = rw (lt-ltb a b h) refl

level : (a c d : ℕ) → c < d → is_lt (pair_cmp (a, c) (a, d)) ≡ true
level a c d h = rw (le-ltb a a (omega arith), eq-eqb a a refl, lt-ltb c d h) refl

pub earlier_before : (s t : ℕ × List ℕ) → IsEarlier s t → before s t ≡ true
earlier_before s t e = ⊎_elim (λ l. lower s.0 t.0 (slice_index s.1 0) (slice_index t.1 0) l)
    (λ (g : t.0 ≤ s.0). let f = e.number in let p : s.0 ≡ t.0 = omega arith in
    subst (λ n. is_lt (pair_cmp (s.0, slice_index s.1 0) (n, slice_index t.1 0)) ≡ true) p (level s.0 (slice_index s.1 0) (slice_index t.1 0) (e.mutant p)))
    (cases_lt s.0 t.0)

pub sorted_by_pairs : {X F : Type 0} {g : Mut F (Bor X × Unit {0}) (ℕ × ℕ)} {f : F} (n : X → ℕ × ℕ) (xs : List X)
    → ((key : X → ℕ × ℕ) → ComputesKey g key f → IsSortedByKey key pair_cmp xs)
    → ((a : Bor X × Unit {0}) (r : ℕ × ℕ) (f' : F) → Called g f a r f' → (r ≡ n a.0.now) × (f' ≡ f)) → IsSortedByKey n pair_cmp xs
sorted_by_pairs {g = g} {f = f} n xs up h = up n (always_returns_same g (λ a r. r ≡ n a.0.now) f h)

abbrev pub key_of : Split → ℕ × ℕ
key_of s = split_key (split_seen s)

pub none_before : (xs : List Split) → IsSortedByKey key_of pair_cmp xs → AllPairs (λ a b. before b a ≡ false) (map split_seen xs)
none_before xs up i j d h l =
    let n = length_map split_seen xs in
    let e : Split = record { step = d.0; parts = d.1 } in
    let far = sorted_far (λ x y. is_lt (pair_cmp (key_of x) (key_of y)))
    (ranks_by (then_total (on_total (λ (x : ℕ × ℕ). x.0) nat_cmp_total) (on_total (λ (x : ℕ × ℕ). x.1) nat_cmp_total)) key_of) xs up i j e (omega arith)
    (omega arith) in
    ap (λ s. before s (get_or (map split_seen xs) i d)) (get_or-map split_seen xs j e d (omega arith))
    ∙ ap (before (split_seen (get_or xs j e))) (get_or-map split_seen xs i e d (omega arith)) ∙ far

same_sound : (x y : ℕ × List ℕ) → same_split x y ≡ true → x ≡ y
same_sound x y h =
    let p = and_parts (x.0 == y.0) (pointwise nat_eq x.1 y.1) h in
    let a = eqb-true x.0 y.0 p.0 in let b = lists_sound nat_eq eqb-true x.1 y.1 p.1 in λ i. (a i, b i)

same_complete : (x : ℕ × List ℕ) → same_split x x ≡ true
same_complete x = and_from _ _ (eq-eqb x.0 x.0 refl) (lists_same nat_eq (λ k. eq-eqb k k refl) x.1)

pub in_order_same : (xs ys : List Split) (ordered : List (ℕ × List ℕ)) → IsPermutation xs ys → IsPermutation (map split_seen xs) ordered
    → AllPairs IsEarlier ordered → IsSortedByKey key_of pair_cmp ys → map split_seen ys ≡ ordered
in_order_same xs ys ordered p q o up =
    sorted_same same_split same_sound same_complete before (map split_seen ys) ordered (none_before ys up)
    (λ i j d h l. earlier_before (get_or ordered i d) (get_or ordered j d) (o i j d h l))
    (λ x. sum_by-IsPermutation (λ s. cond (same_split x s) 1 0) (map split_seen xs) (map split_seen ys) (IsPermutation-map split_seen _ _ p)
    ∙ sym (sum_by-IsPermutation (λ s. cond (same_split x s) 1 0) (map split_seen xs) ordered q))
