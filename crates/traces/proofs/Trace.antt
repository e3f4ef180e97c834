-- How a trace goes on, one change at a time.
use Rattle.std.proofs.Common.{◌≡◌, ℕ, zero, suc, ◌≤◌, ◌<◌, true, false, List, [], ◌∷◌, ◌++◌, length, take, slice_get, Some, refl, sym, ◌∙◌, ap, arith, ⊎_elim}
use Rattle.std.specs.List.{fold}
use Rattle.std.proofs.lemmas.Bool.{cases_Bool}
use Rattle.traces.specs.Trace.{Trial, change_of, changes_from, state_after, AreChangesFrom}
use Rattle.traces.proofs.Bools.{on_bool}

module _ {S C : Type 0} (T : Trial S C) where
  pub ended_none : (m b : ℕ) (s : S) → T.meanings.ended s ≡ true → changes_from T m b s ≡ []
  unfolding changes_from
  ended_none m zero s e = refl
  ended_none m (suc b) s e = rw (e, changes_from)

  pub live_more : (m b : ℕ) (s : S) → T.meanings.ended s ≡ false → changes_from T m (suc b) s ≡ change_of T m s
      ∷ changes_from T m b (T.meanings.after s (change_of T m s))
  unfolding changes_from
  live_more m b s e = rw (e, changes_from)

  pub none_left : (m : ℕ) (s : S) → changes_from T m zero s ≡ []
  unfolding changes_from
  none_left m s = refl

  pub record GoesOn (m n b : ℕ) (s : S) : Type 0 where
    pub live : T.meanings.ended (fold T.meanings.after s (take n (changes_from T m b s))) ≡ false
    pub room : n < b
    pub more : take (suc n) (changes_from T m b s) ≡ take n (changes_from T m b s) ++ change_of T m (fold T.meanings.after s (take n (changes_from T m b s)))
        ∷ []

  pub goes_on : (m n b : ℕ) (s : S) → n < length (changes_from T m b s) → GoesOn m n b s
  goes_on m n zero s h = absurd (let k : n < 0 = (rw none_left at h) in omega arith)
  goes_on m zero (suc b) s h = ⊎_elim
      (λ e. absurd (let k : 0 < 0 = (rw (ended_none m (suc b) s e) at h) in omega arith))
      (λ e. record { live = e; room = omega arith; more = rw (live_more m b s e) refl })
      (cases_Bool (T.meanings.ended s))
  goes_on m (suc n) (suc b) s h = ⊎_elim
      (λ e. absurd (let k : suc n < 0 = (rw (ended_none m (suc b) s e) at h) in omega arith))
      (λ e. let c = change_of T m s in let l = live_more m b s e in let t = T.meanings.after s c in
      let g = goes_on m n b t (let k : suc n < suc (length (changes_from T m b t)) = (rw l at h) in omega arith) in
      record { live = rw l g.live; room = (let r = g.room in omega arith); more = rw l (ap (λ xs. c ∷ xs) g.more) })
      (cases_Bool (T.meanings.ended s))

  pub not_over : (m n b : ℕ) (s : S) → n ≤ length (changes_from T m b s) → n < b
      → T.meanings.ended (fold T.meanings.after s (take n (changes_from T m b s))) ≡ false → n < length (changes_from T m b s)
  not_over m n zero s h r e = absurd (omega arith)
  not_over m zero (suc b) s h r e = rw (live_more m b s e) (omega arith)
  not_over m (suc n) (suc b) s h r e = ⊎_elim
      (λ d. absurd (let k : suc n ≤ 0 = (rw (ended_none m (suc b) s d) at h) in omega arith))
      (λ d. let t = T.meanings.after s (change_of T m s) in let l = live_more m b s d in
      let k : suc n ≤ suc (length (changes_from T m b t)) = (rw l at h) in
      let i : n < length (changes_from T m b t) = not_over m n b t (omega arith) (omega arith) (rw l at e) in
      rw l (omega arith))
      (cases_Bool (T.meanings.ended s))

some_same : {X : Type 0} (x y : X) → Some x ≡ Some y → x ≡ y
some_same x y e = cc

-- the changes from a state on are what they should be, and no other list is
module _ {S C : Type 0} (T : Trial S C) where
  no_changes : (m b : ℕ) (s : S) → (0 < b → T.meanings.ended s ≡ true) → AreChangesFrom T m b s []
  no_changes m b s e = record {
    within = omega arith;
    live = λ n h. absurd (let l : n < 0 = h in omega arith);
    made = λ n h. absurd (let l : n < 0 = h in omega arith);
    stops = e;
  }

  module _ (m b : ℕ) (s : S) where
    more_live : (cs : List C) → T.meanings.ended s ≡ false → AreChangesFrom T m b (T.meanings.after s (change_of T m s)) cs
        → (n : ℕ) → n < length (change_of T m s ∷ cs) → T.meanings.ended (state_after T s (take n (change_of T m s ∷ cs))) ≡ false
    more_live cs e a zero h = e
    more_live cs e a (suc n) h = a.live n (omega arith)

    more_made : (cs : List C) → AreChangesFrom T m b (T.meanings.after s (change_of T m s)) cs
        → (n : ℕ) → n < length (change_of T m s ∷ cs) → slice_get (change_of T m s ∷ cs) n ≡ Some
        (change_of T m (state_after T s (take n (change_of T m s ∷ cs))))
    more_made cs a zero h = refl
    more_made cs a (suc n) h = a.made n (omega arith)

    more_changes : (cs : List C) → T.meanings.ended s ≡ false → AreChangesFrom T m b (T.meanings.after s (change_of T m s)) cs
        → AreChangesFrom T m (suc b) s (change_of T m s ∷ cs)
    more_changes cs e a = record {
      within = (let w = a.within in omega arith);
      live = more_live cs e a;
      made = more_made cs a;
      stops = λ h. a.stops (omega arith);
    }

    fewer_changes : (c : C) (cs : List C) → AreChangesFrom T m (suc b) s (c ∷ cs) → AreChangesFrom T m b (T.meanings.after s c) cs
    fewer_changes c cs a = record {
      within = (let w = a.within in omega arith);
      live = λ n h. a.live (suc n) (omega arith);
      made = λ n h. a.made (suc n) (omega arith);
      stops = λ h. a.stops (omega arith);
    }

  pub changes_from-AreChangesFrom : (m b : ℕ) (s : S) → AreChangesFrom T m b s (changes_from T m b s)
  changes_from-AreChangesFrom m zero s = rw (none_left T m s) (no_changes m zero s (λ h. absurd (omega arith)))
  changes_from-AreChangesFrom m (suc b) s = on_bool (T.meanings.ended s)
      (λ t. rw (ended_none T m (suc b) s t) (no_changes m (suc b) s (λ h. t)))
      (λ f. rw (live_more T m b s f) (more_changes m b s (changes_from T m b (T.meanings.after s (change_of T m s))) f
      (changes_from-AreChangesFrom m b (T.meanings.after s (change_of T m s)))))

  pub AreChangesFrom-unique : (m b : ℕ) (s : S) (cs : List C) → AreChangesFrom T m b s cs → cs ≡ changes_from T m b s
  AreChangesFrom-unique m zero s [] a = sym (none_left T m s)
  AreChangesFrom-unique m zero s (c ∷ cs) a = absurd (let w = a.within in omega arith)
  AreChangesFrom-unique m (suc b) s [] a = sym (ended_none T m (suc b) s (a.stops (omega arith)))
  AreChangesFrom-unique m (suc b) s (c ∷ cs) a =
      let e : T.meanings.ended s ≡ false = a.live 0 (omega arith) in
      let i : c ≡ change_of T m s = some_same c (change_of T m s) (a.made 0 (omega arith)) in
      let r = AreChangesFrom-unique m b (T.meanings.after s c) cs (fewer_changes m b s c cs a) in
      rw (live_more T m b s e) (ap (λ x. x ∷ cs) i ∙ ap (λ xs. change_of T m s ∷ xs) (r ∙ ap (λ x. changes_from T m b (T.meanings.after s x)) i))
