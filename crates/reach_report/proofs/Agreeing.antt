-- Mutants that agree with mutant 0 so far: where all their variants were 0.
use Rattle.std.proofs.Common.{◌≡◌, ℕ, zero, suc, ◌+◌, ◌<◌, ◌≤◌, true, List, [], ◌∷◌, length, take, get_or, slice_get, Option, Some, None, refl, sym, ap, ◌∙◌, subst, arith, ⊎_elim}
use Rattle.std.proofs.lemmas.Bool.{and_from, cases_lt}
use Rattle.std.proofs.lemmas.List.{take_all, get_or_past}
use Rattle.traces.specs.Meanings.{IsSameTest}
use Rattle.traces.specs.Trace.{Trial, trace, state_at, change_of}
use Rattle.traces.specs.Together.{together, AreTogether}
use Rattle.traces.specs.Work.{variant_at}
use Rattle.traces.proofs.Together.{AreTogether-from, together_from, same_state, both_go_on, together_more}
use Rattle.reach_report.specs.Reach.{PartsAt, StandsAt, IsReach, IsParting, IsVisit, AreVisits}
use Rattle.reach_report.specs.Least.{IsLeast}

take_same : {X : Type 0} (n : ℕ) (xs ys : List X) → take n xs ≡ take n ys → slice_get xs n ≡ slice_get ys n → take (suc n) xs ≡ take (suc n) ys
take_same n [] [] e s = refl
take_same zero [] (y ∷ ys) e s = cc
take_same zero (x ∷ xs) [] e s = cc
take_same zero (x ∷ xs) (y ∷ ys) e s = cc
take_same (suc n) [] (y ∷ ys) e s = cc
take_same (suc n) (x ∷ xs) [] e s = cc
take_same (suc n) (x ∷ xs) (y ∷ ys) e s = let rest = take_same n xs ys (cc) s in cc

taken_below : {X : Type 0} (n k : ℕ) (xs : List X) → k < n → slice_get (take n xs) k ≡ slice_get xs k
taken_below zero k xs h = absurd (omega arith)
taken_below (suc n) k [] h = refl
taken_below (suc n) zero (x ∷ xs) h = refl
taken_below (suc n) (suc k) (x ∷ xs) h = taken_below n k xs (omega arith)

module _ {S C : Type 0} (T : Trial S C) (same : IsSameTest T.meanings) where
  pub turned : (m k n : ℕ) → AreTogether T m k n → AreTogether T k m n
  turned m k n t = record { reached = t.other_reached; other_reached = t.reached; equal = sym t.equal }

  pub at_start : (m k : ℕ) → AreTogether T m k 0
  at_start m k = record { reached = omega arith; other_reached = omega arith; equal = refl }

  -- who are together go on so where their next changes are equal
  pub together_on : (m k n : ℕ) → AreTogether T m k n → n < length (trace T m) → slice_get (trace T m) n ≡ slice_get (trace T k) n → AreTogether T m k (suc n)
  together_on m k n t l e =
      let o = both_go_on T same m k n t l in
      record { reached = omega arith; other_reached = omega arith; equal = take_same n (trace T m) (trace T k) t.equal e }

  -- the changes that two mutants together have made
  pub same_change_at : (m k n j : ℕ) → AreTogether T m k n → j < n → slice_get (trace T m) j ≡ slice_get (trace T k) j
  same_change_at m k n j t h = sym (taken_below n j (trace T m) h) ∙ ap (λ cs. slice_get cs j) t.equal ∙ taken_below n j (trace T k) h

  module _ (unchanged : (at : ℕ) → T.variant 0 at ≡ 0) where
    -- one more change by variant 0
    step : (m n : ℕ) → AreTogether T 0 m n → n < length (trace T 0) → T.variant m (T.meanings.place (state_at T 0 n)) ≡ 0 → AreTogether T 0 m (suc n)
    step m n t h z =
        let s = state_at T 0 n in
        let e : change_of T 0 s ≡ change_of T m s = ap (λ v. T.meanings.next v s) (unchanged (T.meanings.place s) ∙ sym z) in
        AreTogether-from T same 0 m (suc n) (together_more T same 0 m n h
        ∙ and_from (together T 0 m n) (T.meanings.same (change_of T 0 s) (change_of T m s)) (together_from T same 0 m n t)
        (subst (λ c. T.meanings.same (change_of T 0 s) c ≡ true) e (same.complete (change_of T 0 s))))

    -- along the trace of mutant 0
    pub along_original : (m n : ℕ) → n ≤ length (trace T 0) → ((k : ℕ) → k < n → T.variant m (T.meanings.place (state_at T 0 k)) ≡ 0) → AreTogether T 0 m n
    along_original m zero h z = at_start 0 m
    along_original m (suc n) h z = step m n (along_original m n (omega arith) (λ k l. z k (omega arith))) (omega arith) (z n (omega arith))

    -- along the trace of the mutant
    pub along_mutant : (m n : ℕ) → n ≤ length (trace T m) → ((k : ℕ) → k < n → variant_at T m k ≡ 0) → AreTogether T 0 m n
    along_mutant m zero h z = at_start 0 m
    along_mutant m (suc n) h z =
        let t = along_mutant m n (omega arith) (λ k l. z k (omega arith)) in
        step m n t (both_go_on T same m 0 n (turned 0 m n t) (omega arith)) (ap (λ s. T.variant m (T.meanings.place s)) (same_state T same 0 m n t) ∙ z n (omega arith))

    -- ---- the laws

    -- a mutant that made no change by another variant so far hasn't parted
    not_parted : (m n : ℕ) → PartsAt T m n → ((k : ℕ) → k < n + 1 → variant_at T m k ≡ 0) → ⊥
    not_parted m n p z =
        let w = p.within in
        p.differ (sym (same_change_at 0 m (n + 1) n (along_mutant m (n + 1) (omega arith) z) (omega arith)))

    pub reached_before : (m n : ℕ) (reach : Option ℕ) → PartsAt T m n → IsReach T m reach → (number : ℕ) × (reach ≡ Some number) × (number ≤ n + 1)
    reached_before m n None p r = absurd (let w = p.within in not_parted m n p (λ k h. r k (omega arith)))
    reached_before m n (Some number) p r = let is = r.1 in (
      number,
      refl,
      ⊎_elim
          (λ (l : r.0 < n + 1). omega arith)
          (λ (g : n + 1 ≤ r.0). absurd (not_parted m n p (λ k h. r.2.before k (omega arith))))
          (cases_lt r.0 (n + 1)),
    )

    -- ---- the reaches

    -- the visit of a place that mutant 0 has come to
    visited : (visits : List (Option ℕ)) (k at : ℕ) (v : Option ℕ) → IsVisit T at v → k < length (trace T 0) → T.meanings.place (state_at T 0 k) ≡ at
        → (n : ℕ) × (v ≡ Some n) × (n ≤ k)
    visited visits k at None is h e = absurd (is k h e)
    visited visits k at (Some n) is h e = (n, refl, ⊎_elim (λ (l : k < n). absurd (is.before k l e)) (λ g. g) (cases_lt k n))

    module _ (visits : List (Option ℕ)) (are : AreVisits T visits) (m : ℕ) where
      listed : (at n : ℕ) → get_or visits at None ≡ Some n → at < length visits
      listed at n e = ⊎_elim (λ l. l) (λ g. absurd (let none = get_or_past visits at None g in let bad : None ≡ Some n = sym none ∙ e in
          let no : ⊥ = cc in no)) (cases_lt at (length visits))

      -- no change before the least one at a place of the mutant's own
      none_before : (n k : ℕ) → ((at j : ℕ) → at < length visits → 0 < T.variant m at → get_or visits at None ≡ Some j → n ≤ j) → k < n → k < length (trace T 0)
          → T.variant m (T.meanings.place (state_at T 0 k)) ≡ 0
      none_before n k least l h =
          let at = T.meanings.place (state_at T 0 k) in let w = visited visits k at (get_or visits at None) (are.each at) h refl in ⊎_elim
          (λ t. let b = least at w.0 (listed at w.0 w.1) t w.1 in let c = w.2 in absurd (omega arith))
          (λ z. omega arith)
          (cases_lt 0 (T.variant m at))

      pub reach_is : (r : Option ℕ) → IsLeast T.variant visits (length visits) m r → IsReach T m r
      reach_is None none = λ n h.
          let all : (k : ℕ) → k < length (trace T 0) → T.variant m (T.meanings.place (state_at T 0 k)) ≡ 0 = (λ k l.
          let at = T.meanings.place (state_at T 0 k) in let w = visited visits k at (get_or visits at None) (are.each at) l refl in ⊎_elim
          (λ t. absurd (let e = none at (listed at w.0 w.1) t in let bad : None ≡ Some w.0 = sym e ∙ w.1 in let no : ⊥ = cc in no))
          (λ z. omega arith)
          (cases_lt 0 (T.variant m at))) in
          let whole = along_original m (length (trace T 0)) (omega arith) all in
          let inside : n < length (trace T 0) = ⊎_elim (λ l. l) (λ g. absurd (let on = both_go_on T same m 0 (length (trace T 0)) (turned 0 m (length (trace T 0)) whole)
          (omega arith) in omega arith)) (cases_lt n (length (trace T 0))) in
          let t = along_original m n (omega arith) (λ k l. all k (omega arith)) in
          ap (λ s. T.variant m (T.meanings.place s)) (sym (same_state T same 0 m n t)) ∙ all n inside
      reach_is (Some r) first =
          let n = first.number in let stands : StandsAt T first.place n = subst (IsVisit T first.place) first.visit (are.each first.place) in
          let w = stands.within in
          let zeros : (k : ℕ) → k < n → T.variant m (T.meanings.place (state_at T 0 k)) ≡ 0 = (λ k l. none_before n k first.least l (omega arith)) in
          let t = along_original m n (omega arith) zeros in (
            n,
            first.is,
            record {
              within = both_go_on T same 0 m n t w;
              changed = subst (λ s. 0 < T.variant m (T.meanings.place s)) (same_state T same 0 m n t) (subst (λ at. 0 < T.variant m at) (sym stands.there) first.tried);
              before = λ k l. let u = along_original m k (omega arith) (λ j h. zeros j (omega arith)) in
                  ap (λ s. T.variant m (T.meanings.place s)) (sym (same_state T same 0 m k u)) ∙ zeros k l;
            },
          )

  -- ---- traces that don't part

  agree_so_far : (m n : ℕ) → IsParting T m None → n ≤ length (trace T m) → AreTogether T m 0 n
  agree_so_far m zero p h = at_start m 0
  agree_so_far m (suc n) p h =
      let t = agree_so_far m n p (omega arith) in let o = both_go_on T same m 0 n t (omega arith) in
      together_on m 0 n t (omega arith) (p n (omega arith) o)

  pub same_traces : (m : ℕ) → IsParting T m None → trace T m ≡ trace T 0
  same_traces m p =
      let n = length (trace T m) in let t = agree_so_far m n p (omega arith) in
      let short : length (trace T 0) ≤ n = ⊎_elim
      (λ (l : n < length (trace T 0)). absurd (let on = both_go_on T same 0 m n (turned m 0 n t) l in omega arith))
      (λ g. g)
      (cases_lt n (length (trace T 0))) in
      sym (take_all n (trace T m) (omega arith)) ∙ t.equal ∙ take_all n (trace T 0) short
