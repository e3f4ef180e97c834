-- One more change of a trace: what is left of it, its last state, its length and its tolls.
use Rattle.std.proofs.Common.{◌≡◌, ℕ, suc, List, [], subst, ◌+◌, ◌≤◌, false, true, ◌∷◌, length, arith, sym, ◌∙◌, ap}
use Rattle.traces.specs.Trace.{Trial, change_of, changes_from, state_after}
use Rattle.traces.proofs.Trace.{ended_none, live_more, none_left}
use Rattle.ports.specs.Asks.{asked_in, AskedBy, AskedAtMostBy}
use Rattle.plain_machine.specs.Tolls.{tolls_from, tolls_of}

module _ {S C : Type 0} (T : Trial S C) (m : ℕ) where
  -- nothing is left where the state has ended, or the budget is used up
  pub state_over : (n : ℕ) (s all : S) → T.meanings.ended s ≡ true → state_after T s (changes_from T m n s) ≡ all → s ≡ all
  state_over n s all h e = sym (ap (state_after T s) (ended_none T m n s h)) ∙ e

  pub length_over : (n : ℕ) (s : S) (i all : ℕ) → T.meanings.ended s ≡ true → i + length (changes_from T m n s) ≡ all → i ≡ all
  length_over n s i all h e = let none : length (changes_from T m n s) ≡ 0 = ap length (ended_none T m n s h) in omega arith

  pub state_spent : (n : ℕ) (s all : S) → n ≡ 0 → state_after T s (changes_from T m n s) ≡ all → s ≡ all
  state_spent n s all h e = sym (ap (λ (k : ℕ). state_after T s (changes_from T m k s)) h ∙ ap (state_after T s) (none_left T m s)) ∙ e

  pub length_spent : (n : ℕ) (s : S) (i all : ℕ) → n ≡ 0 → i + length (changes_from T m n s) ≡ all → i ≡ all
  length_spent n s i all h e = let none : length (changes_from T m n s) ≡ 0 = ap (λ (k : ℕ). length (changes_from T m k s)) h ∙ ap length (none_left T m s) in omega arith

  pub tolls_over : (p n : ℕ) (s : S) (now all : ℕ) → T.meanings.ended s ≡ true → now + tolls_from T m p s (changes_from T m n s) ≡ all → now ≡ all
  tolls_over p n s now all h e = let none : tolls_from T m p s (changes_from T m n s) ≡ 0 = ap (tolls_from T m p s) (ended_none T m n s h) in omega arith

  pub tolls_spent : (p n : ℕ) (s : S) (now all : ℕ) → n ≡ 0 → now + tolls_from T m p s (changes_from T m n s) ≡ all → now ≡ all
  tolls_spent p n s now all h e =
      let none : tolls_from T m p s (changes_from T m n s) ≡ 0 = ap (λ (k : ℕ). tolls_from T m p s (changes_from T m k s)) h ∙ ap (tolls_from T m p s) (none_left T m s) in omega arith

  -- a state that hasn't ended has a change to come, whose toll is among those that are left
  pub toll_left : (p n k : ℕ) (s : S) → n ≡ suc k → T.meanings.ended s ≡ false → T.meanings.toll p (T.variant m (T.meanings.place s)) s ≤ tolls_from T m p s (changes_from T m n s)
  toll_left p n k s more lives = omega (arith, ap (λ (b : ℕ). tolls_from T m p s (changes_from T m b s)) more, ap (tolls_from T m p s) (live_more T m k s lives))

  -- the change c was made in the state s, which hadn't ended, and led to the state t
  module _ (n k : ℕ) (s t : S) (c : C) (more : n ≡ suc k) (lives : T.meanings.ended s ≡ false) (is : c ≡ change_of T m s) (applied : t ≡ T.meanings.after s c) where
    leads : T.meanings.after s (change_of T m s) ≡ t
    leads = ap (T.meanings.after s) (sym is) ∙ sym applied

    begins : changes_from T m n s ≡ c ∷ changes_from T m k t
    begins =
        ap (λ (b : ℕ). changes_from T m b s) more ∙ live_more T m k s lives ∙ ap (λ d. d ∷ changes_from T m k (T.meanings.after s (change_of T m s))) (sym is)
        ∙ ap (λ u. c ∷ changes_from T m k u) leads

    pub state_more : (all : S) → state_after T s (changes_from T m n s) ≡ all → state_after T t (changes_from T m k t) ≡ all
    state_more all e = ap (λ u. state_after T u (changes_from T m k t)) applied ∙ sym (ap (state_after T s) begins) ∙ e

    pub length_more : (i all : ℕ) → i + length (changes_from T m n s) ≡ all → i + 1 + length (changes_from T m k t) ≡ all
    length_more i all e = omega (arith, ap length begins)

    pub tolls_more : (p now later all : ℕ) → later ≡ now + T.meanings.toll p (T.variant m (T.meanings.place s)) s → now + tolls_from T m p s (changes_from T m n s) ≡ all
        → later + tolls_from T m p t (changes_from T m k t) ≡ all
    tolls_more p now later all toll e = omega (arith, ap (tolls_from T m p s) begins, ap (λ u. tolls_from T m p u (changes_from T m k t)) applied)

-- ---- the asks of a whole run

module _ {S C : Type 0} (T U : Trial S C) (same : T ≡ U) (m : ℕ) (old new : List ℕ) (s : S) (is : s ≡ U.start) where
  pub run_asks : AskedBy old new (λ p. tolls_from T m p s (changes_from T m T.budget s)) → AskedBy old new (tolls_of U m)
  run_asks h p =
      let P : S → Type 0 = λ t. asked_in new p ≡ asked_in old p + tolls_from U m p t (changes_from U m U.budget t) in
      let Q : Trial S C → Type 0 = λ V. asked_in new p ≡ asked_in old p + tolls_from V m p s (changes_from V m V.budget s) in
      subst P is (subst Q same (h p))

  pub run_asks_at_most : AskedAtMostBy old new (λ p. tolls_from T m p s (changes_from T m T.budget s)) → AskedAtMostBy old new (tolls_of U m)
  run_asks_at_most h p =
      let P : S → Type 0 = λ t. (asked_in old p ≤ asked_in new p) × (asked_in new p ≤ asked_in old p + tolls_from U m p t (changes_from U m U.budget t)) in
      let Q : Trial S C → Type 0 = λ V. (asked_in old p ≤ asked_in new p) × (asked_in new p ≤ asked_in old p + tolls_from V m p s (changes_from V m V.budget s)) in
      subst P is (subst Q same (h p))
