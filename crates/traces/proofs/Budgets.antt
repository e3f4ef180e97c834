-- A trace within a smaller budget is the front of the trace within a greater one.
use Rattle.std.proofs.Common.{◌≡◌, ℕ, zero, suc, ◌≤◌, true, false, List, [], ◌∷◌, take, refl, sym, ◌∙◌, ap, arith, ⊎_elim}
use Rattle.std.proofs.lemmas.Bool.{cases_Bool}
use Rattle.traces.specs.Trace.{Trial, within, change_of, changes_from, trace}
use Rattle.std.proofs.lemmas.Bool.Decides.{nat_tests}
use Rattle.std.proofs.lemmas.List.{length-take, take-take}
use Rattle.std.specs.Prelude.{◌&&◌, Bool, nat_le, length}
use Rattle.std.specs.Cmp.Lexicographic.{pointwise}
use Rattle.traces.specs.Together.{below, together, class_of}
use Rattle.traces.proofs.Trace.{ended_none, live_more, none_left}

module _ {S C : Type 0} (T : Trial S C) where
  pub front : (m n b : ℕ) (s : S) → n ≤ b → changes_from T m n s ≡ take n (changes_from T m b s)
  front m zero b s h = none_left T m s
  front m (suc n) zero s h = absurd (omega arith)
  front m (suc n) (suc b) s h = ⊎_elim
      (λ e. rw (ended_none T m (suc n) s e) (rw (ended_none T m (suc b) s e) refl))
      (λ e. let t = T.meanings.after s (change_of T m s) in let i = front m n b t (omega arith) in
      rw (live_more T m n s e) (rw (live_more T m b s e) (ap (λ xs. change_of T m s ∷ xs) i)))
      (cases_Bool (T.meanings.ended s))

  same_from : (m n b : ℕ) (s : S) → changes_from (within T n) m b s ≡ changes_from T m b s
  same_from m n zero s = none_left (within T n) m s ∙ sym (none_left T m s)
  same_from m n (suc b) s = ⊎_elim
      (λ e. ended_none (within T n) m (suc b) s e ∙ sym (ended_none T m (suc b) s e))
      (λ e. let t = T.meanings.after s (change_of T m s) in
      live_more (within T n) m b s e ∙ ap (λ xs. change_of T m s ∷ xs) (same_from m n b t) ∙ sym (live_more T m b s e))
      (cases_Bool (T.meanings.ended s))

  pub trace_within : (m n : ℕ) → n ≤ T.budget → trace (within T n) m ≡ take n (trace T m)
  trace_within m n h = same_from m n n T.start ∙ front m n T.budget T.start h

  still_reached : {X : Type 0} (n b : ℕ) (xs : List X) → n ≤ b → nat_le n (length (take b xs)) ≡ nat_le n (length xs)
  still_reached n b xs h = let l = length-take b xs in grind (arith, nat_tests)

  together_taken : (b n : ℕ) (xs ys : List C) → n ≤ b
      → (nat_le n (length (take b xs)) && (nat_le n (length (take b ys)) && pointwise T.meanings.same (take n (take b xs)) (take n (take b ys))))
      ≡ (nat_le n (length xs) && (nat_le n (length ys) && pointwise T.meanings.same (take n xs) (take n ys)))
  together_taken b n xs ys h =
      rw (still_reached n b xs h) (rw (still_reached n b ys h) (rw (take-take n b xs h) (rw (take-take n b ys h) refl)))

  pub together_within : (b m k n : ℕ) → b ≤ T.budget → n ≤ b → together (within T b) m k n ≡ together T m k n
  unfolding together
  together_within b m k n l h = rw (trace_within m b l) (rw (trace_within k b l) (together_taken b n (trace T m) (trace T k) h))
