-- The different variants of members, each by its least member.
use Rattle.std.proofs.Common.{◌≡◌, ◌≢◌, ⊎_elim, if◌then◌else◌, ◌-◌, ℕ, zero, suc, ◌+◌, ◌≤◌, ◌<◌, Bool, true, false, ◌==◌, ◌||◌, List, [], ◌∷◌, ◌++◌}
use Rattle.std.proofs.Common.{length, map, take, get_or, nat_eq, refl, sym, ap, ◌∙◌, arith}
use Rattle.std.specs.List.{All, Contains, IsDistinct, filter, list_any}
use Rattle.std.proofs.lemmas.Bool.{true≢false, eq-eqb, cases_lt}
use Rattle.std.proofs.lemmas.List.{get_or_default}
use Rattle.std.proofs.lemmas.List.Kept.{AllPairs-from_increasing}
use Rattle.std.proofs.lemmas.List.{length-map, length-take}
use Rattle.std.proofs.lemmas.List.Sums.{length-filter, count_by-le-length}
use Rattle.std.proofs.lemmas.List.Elements.{All-nil, All-cons, recursion_from_All}
use Rattle.std.proofs.lemmas.List.Sorted.{IsPermutation-sym, IsPermutation-to_front}
use Rattle.std.proofs.lemmas.Map.Keys.{IsDistinct-cons, IsDistinct-IsPermutation}
use Rattle.traces.proofs.Bools.{on_bool}
use Rattle.member_sets.specs.Members.{IsMemberList}
use Rattle.exec_core.specs.ClassTable.{with_number, firsts, IsAt}
use Rattle.member_sets.proofs.Firsts.{any_more, firsts_taken, firsts_left, leads}
use Rattle.member_sets.proofs.Parts.{rising_at}
use Rattle.exec_machine.proofs.Numbers.{flips}

or_true : (b : Bool) → (b || true) ≡ true
or_true true = refl
or_true false = refl

none_all : (x : ℕ) (xs : List ℕ) → list_any (λ c. c == x) xs ≡ false → All (λ y. nat_eq x y ≡ false) xs
none_all x [] h = All-nil _
none_all x (y ∷ ys) h = on_bool (y == x) (λ t. absurd (true≢false (sym (rw t refl) ∙ h)))
    (λ f. All-cons (λ z. nat_eq x z ≡ false) y ys (flips x y ∙ f) (none_all x ys (sym (rw f refl) ∙ h)))

-- a number that isn't there yet
pub distinct_more : (xs : List ℕ) (x : ℕ) → list_any (λ c. c == x) xs ≡ false → IsDistinct nat_eq xs → IsDistinct nat_eq (xs ++ x ∷ [])
distinct_more xs x h d =
    IsDistinct-IsPermutation nat_eq flips (x ∷ xs) (xs ++ x ∷ []) (IsPermutation-sym _ _ (IsPermutation-to_front xs x))
    (IsDistinct-cons nat_eq x xs (recursion_from_All (λ y. nat_eq x y ≡ false) xs (none_all x xs h)) d)

pub few_firsts : (v : ℕ → ℕ) (members : List ℕ) (p : ℕ → Bool) → length (map v (filter p members)) ≤ length members
few_firsts v members p = let a = length-map (filter p members) v in let b = length-filter p members in let c = count_by-le-length p members in omega arith

pub few_taken : (v : ℕ → ℕ) (p : ℕ → Bool) (members : List ℕ) (i : ℕ) → length (map v (filter p (take i members))) ≤ length members
few_taken v p members i = let a = few_firsts v (take i members) p in let b = length-take i members in omega arith

module _ (v : ℕ → ℕ) (members : List ℕ) (is : IsMemberList members) where
  abbrev firsts_to : ℕ → List ℕ
  firsts_to i = firsts v members i

  -- one member more
  pub with_first : (i x : ℕ) (xs : List ℕ) → i < length members → xs ≡ firsts_to i → x ≡ v (get_or members i 0) → with_number xs x ≡ firsts_to (i + 1)
  with_first i x xs l e f = on_bool (list_any (λ c. c == x) xs)
      (λ t. ap (λ b. if b then xs else xs ++ x ∷ []) t ∙ e ∙ sym (firsts_left v members is i l (leads v members is i x xs true l e f t)))
      (λ n. ap (λ b. if b then xs else xs ++ x ∷ []) n ∙ ap (λ zs. zs ++ x ∷ []) e ∙ ap (λ y. firsts_to i ++ y ∷ []) f
      ∙ sym (firsts_taken v members is i l (leads v members is i x xs false l e f n)))

  -- members with a number that is there already add nothing
  none_new : (d i j x : ℕ) → j ≡ i + d → j ≤ length members → ((k : ℕ) → i ≤ k → k < j → v (get_or members k 0) ≡ x)
      → list_any (λ c. c == x) (firsts_to i) ≡ true → firsts_to j ≡ firsts_to i
  none_new zero i j x e l h t = ap firsts_to (let f : j ≡ i = omega arith in f)
  none_new (suc d) i j x e l h t =
      let n = i + d in let p = none_new d i n x refl (omega arith) (λ k a b. h k a (omega arith)) t in
      ap firsts_to (let f : j ≡ n + 1 = omega arith in f)
      ∙ firsts_left v members is n (omega arith) (leads v members is n x (firsts_to i) true (omega arith) (sym p) (sym (h n (omega arith) (omega arith))) t) ∙ p

  there_now : (x : ℕ) (xs : List ℕ) → list_any (λ c. c == x) (with_number xs x) ≡ true
  there_now x xs = on_bool (list_any (λ c. c == x) xs) (λ t. ap (λ b. list_any (λ c. c == x) (if b then xs else xs ++ x ∷ [])) t ∙ t)
      (λ n. ap (λ b. list_any (λ c. c == x) (if b then xs else xs ++ x ∷ [])) n ∙ any_more v members is x x xs
      ∙ rw (eq-eqb x x refl) (or_true (list_any (λ c. c == x) xs)))

  -- a run of members with one number
  pub same_run : (i j x : ℕ) (xs : List ℕ) → i < j → j ≤ length members → ((k : ℕ) → i ≤ k → k < j → v (get_or members k 0) ≡ x) → xs ≡ firsts_to i
      → with_number xs x ≡ firsts_to j
  same_run i j x xs l m h e =
      let p = with_first i x xs (omega arith) e (sym (h i (omega arith) l)) in
      p ∙ sym (none_new (j - (i + 1)) (i + 1) j x (omega arith) m (λ k a b. h k (omega arith) b) (ap (list_any (λ c. c == x)) (sym p) ∙ there_now x xs))

module _ (v : ℕ → ℕ) (members touched : List ℕ) (is : IsMemberList members) (rising : (j k : ℕ) → j < k → k < length touched
    → get_or touched j 0 < get_or touched k 0) where
  pub at_first : ((m : ℕ) → 0 < v m → Contains touched m) → IsAt v members touched 0 0
  at_first h = record {
    within = omega arith;
    before = λ k j l. absurd (omega arith);
    after = λ k a l p. let c = h (get_or members k 0) p in (c.0, omega arith, c.1, get_or_default touched c.0 0 (get_or members k 0) c.1 ∙ c.2);
  }

  module _ (i at : ℕ) (l : i < length touched) (a : IsAt v members touched i at) where
    pub at_none : ((k : ℕ) → k < length members → get_or members k 0 ≢ get_or touched i 0) → IsAt v members touched (i + 1) at
    at_none h = record {
      within = a.within;
      before = λ k j b c. a.before k j b (omega arith);
      after = λ k b c p. let r = a.after k b c p in (
        r.0,
        ⊎_elim (λ (e : i < r.0). omega arith) (λ (e : r.0 ≤ i). absurd
            (h k c (let f : r.0 ≡ i = (let g = r.1 in omega arith) in sym r.3 ∙ ap (λ n. get_or touched n 0) f))) (cases_lt i r.0),
        r.2,
        r.3,
      );
    }

    module _ (found : ℕ) (f : found < length members) (there : get_or members found 0 ≡ get_or touched i 0) where
      pub not_past : at ≤ found
      not_past = ⊎_elim (λ (b : found < at). absurd (let r = a.before found i b (omega arith) l in omega arith)) (λ (b : at ≤ found). b) (cases_lt found at)

      lower : (j k : ℕ) → j ≤ k → k < length touched → get_or touched j 0 ≤ get_or touched k 0
      lower j k b c = ⊎_elim (λ (d : j < k). let r = rising j k d c in omega arith) (λ (d : k ≤ j). let e : j ≡ k = omega arith in
          let g : get_or touched j 0 ≡ get_or touched k 0 = ap (λ n. get_or touched n 0) e in omega arith) (cases_lt j k)

      pub originals : (k : ℕ) → at ≤ k → k < found → v (get_or members k 0) ≡ 0
      originals k b c = ⊎_elim
          (λ (p : 0 < v (get_or members k 0)). absurd (
          let r = a.after k b (omega arith) p in let s = lower i r.0 r.1 r.2 in let t = r.3 in
          let u = AllPairs-from_increasing members is.rising k found 0 c f in omega arith))
          (λ (p : v (get_or members k 0) ≤ 0). omega arith) (cases_lt 0 (v (get_or members k 0)))

      pub at_found : IsAt v members touched (i + 1) (found + 1)
      at_found = record {
        within = omega arith;
        before = λ k j b c d. let r = rising_at members is.rising k found (omega arith) f in let s = rising i j (omega arith) d in omega arith;
        after = λ k b c p. let n = not_past in let r = a.after k (omega arith) c p in let u =
            AllPairs-from_increasing members is.rising found k 0 (omega arith) c in (
              r.0,
              ⊎_elim (λ (e : i < r.0). omega arith) (λ (e : r.0 ≤ i). absurd (
                  let g : r.0 ≡ i = (let h = r.1 in omega arith) in let h : get_or touched r.0 0 ≡ get_or touched i 0 = ap (λ n. get_or touched n 0) g in
                  let t =
                  r.3 in omega arith)) (cases_lt i r.0),
              r.2,
              r.3,
            );
      }

  pub at_end : (at : ℕ) → IsAt v members touched (length touched) at → (k : ℕ) → at ≤ k → k < length members → v (get_or members k 0) ≡ 0
  at_end at a k b c = ⊎_elim
      (λ (p : 0 < v (get_or members k 0)). absurd (let r = a.after k b c p in let s = r.1 in let t = r.2 in omega arith))
      (λ (p : v (get_or members k 0) ≤ 0). omega arith) (cases_lt 0 (v (get_or members k 0)))
