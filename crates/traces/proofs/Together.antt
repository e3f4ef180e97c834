-- What it means that two mutants are together, and how that goes on.
use Rattle.std.proofs.Common.{◌≡◌, ℕ, suc, ◌<◌, Bool, true, false, ◌&&◌, List, [], ◌∷◌, ◌++◌, length, take, refl, sym, ap, ◌∙◌, arith, subst}
use Rattle.std.specs.List.{fold}
use Rattle.std.specs.Prelude.{nat_le}
use Rattle.std.specs.Cmp.Lexicographic.{pointwise}
use Rattle.std.proofs.lemmas.Bool.{true≢false, and_parts, and_from, leb-true, le-leb}
use Rattle.std.proofs.lemmas.List.{take-take}
use Rattle.std.proofs.lemmas.List.Sums.{fold-append}
use Rattle.traces.specs.Meanings.{IsSameTest}
use Rattle.traces.specs.Trace.{Trial, change_of, trace, state_at}
use Rattle.traces.specs.Together.{together, AreTogether}
use Rattle.traces.proofs.Bools.{same_bools}
use Rattle.traces.proofs.Trace.{goes_on, not_over}

pub lists_sound : {C : Type 0} (same : C → C → Bool) → ((c d : C) → same c d ≡ true → c ≡ d) → (xs ys : List C) → pointwise same xs ys ≡ true → xs ≡ ys
lists_sound same s [] [] h = refl
lists_sound same s [] (y ∷ ys) h = absurd (true≢false (sym h))
lists_sound same s (x ∷ xs) [] h = absurd (true≢false (sym h))
lists_sound same s (x ∷ xs) (y ∷ ys) h = let p = and_parts (same x y) (pointwise same xs ys) h in
    let a = s x y p.0 in let b = lists_sound same s xs ys p.1 in cc

pub lists_same : {C : Type 0} (same : C → C → Bool) → ((c : C) → same c c ≡ true) → (xs : List C) → pointwise same xs xs ≡ true
lists_same same s [] = refl
lists_same same s (x ∷ xs) = and_from (same x x) (pointwise same xs xs) (s x) (lists_same same s xs)

last_same : {C : Type 0} (xs ys : List C) (a b : C) → xs ≡ ys → xs ++ a ∷ [] ≡ ys ++ b ∷ [] → a ≡ b
last_same [] [] a b e h = cc
last_same [] (y ∷ ys) a b e h = cc
last_same (x ∷ xs) [] a b e h = cc
last_same (x ∷ xs) (y ∷ ys) a b e h = last_same xs ys a b (cc) (cc)

module _ {S C : Type 0} (T : Trial S C) (same : IsSameTest T.meanings) where
  pub AreTogether-from : (m k n : ℕ) → together T m k n ≡ true → AreTogether T m k n
  unfolding together
  AreTogether-from m k n h =
      let p = and_parts (nat_le n (length (trace T m))) (nat_le n (length (trace T k)) && pointwise T.meanings.same (take n (trace T m)) (take n (trace T k))) h
      in
      let q = and_parts (nat_le n (length (trace T k))) (pointwise T.meanings.same (take n (trace T m)) (take n (trace T k))) p.1 in
      record {
        reached = leb-true _ _ p.0;
        other_reached = leb-true _ _ q.0;
        equal = lists_sound T.meanings.same same.sound _ _ q.1;
      }

  pub together_from : (m k n : ℕ) → AreTogether T m k n → together T m k n ≡ true
  unfolding together
  together_from m k n t =
      and_from _ _ (le-leb _ _ t.reached)
      (and_from _ _ (le-leb _ _ t.other_reached)
      (subst (λ xs. pointwise T.meanings.same (take n (trace T m)) xs ≡ true) t.equal (lists_same T.meanings.same same.complete (take n (trace T m)))))

  pub same_state : (m k n : ℕ) → AreTogether T m k n → state_at T m n ≡ state_at T k n
  same_state m k n t = ap (fold T.meanings.after T.start) t.equal

  -- where two mutants are together, either both go on or neither does
  pub both_go_on : (m k n : ℕ) → AreTogether T m k n → n < length (trace T m) → n < length (trace T k)
  both_go_on m k n t h =
      let g = goes_on T m n T.budget T.start h in
      not_over T k n T.budget T.start t.other_reached g.room (subst (λ s. T.meanings.ended s ≡ false) (same_state m k n t) g.live)

  pub state_after : (m n : ℕ) → n < length (trace T m) → state_at T m (suc n) ≡ T.meanings.after (state_at T m n) (change_of T m (state_at T m n))
  state_after m n h = rw ((goes_on T m n T.budget T.start h).more) (fold-append T.meanings.after T.start (take n (trace T m)) (change_of T m (state_at T m n)
      ∷ []))

  pub together_more : (m k n : ℕ) → n < length (trace T m) → together T m k (suc n) ≡
      (together T m k n && T.meanings.same (change_of T m (state_at T m n)) (change_of T k (state_at T m n)))
  together_more m k n h = same_bools _ _
      (λ t. let u = AreTogether-from m k (suc n) t in
      let v : AreTogether T m k n = record {
        reached = omega arith;
        other_reached = (let o = u.other_reached in omega arith);
        equal = sym (take-take n (suc n) (trace T m) (omega arith)) ∙ ap (take n) u.equal ∙ take-take n (suc n) (trace T k) (omega arith);
      } in
      let gm = (goes_on T m n T.budget T.start h).more in
      let gk = (goes_on T k n T.budget T.start (u.other_reached)).more in
      let e : change_of T m (state_at T m n) ≡ change_of T k (state_at T k n) =
      last_same _ _ _ _ v.equal (sym gm ∙ u.equal ∙ gk) in
      let f : change_of T m (state_at T m n) ≡ change_of T k (state_at T m n) = (e ∙ ap (change_of T k) (sym (same_state m k n v))) in
      and_from _ _ (together_from m k n v) (subst (λ c. T.meanings.same (change_of T m (state_at T m n)) c ≡ true) f (same.complete _)))
      (λ t. let p = and_parts (together T m k n) (T.meanings.same (change_of T m (state_at T m n)) (change_of T k (state_at T m n))) t in
      let v = AreTogether-from m k n p.0 in
      let f = same.sound _ _ p.1 in
      let hk = both_go_on m k n v h in
      let gm = (goes_on T m n T.budget T.start h).more in
      let gk = (goes_on T k n T.budget T.start hk).more in
      together_from m k (suc n) (record {
        reached = h;
        other_reached = hk;
        equal = gm ∙ ap (λ xs. xs ++ change_of T m (state_at T m n) ∷ []) v.equal
            ∙ ap (λ c. take n (trace T k) ++ c ∷ []) (f ∙ ap (change_of T k) (same_state m k n v)) ∙ sym gk;
      }))
