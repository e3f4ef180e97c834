-- Executions put among the live ones and those that have ended.
use Rattle.std.proofs.Common.{◌≡◌, ℕ, true, false, List, [], ◌∷◌, ◌++◌, sym, ap, ◌∙◌, subst, append_assoc, append-nil}
use Rattle.std.specs.List.{All}
use Rattle.std.specs.List.Sorted.{IsPermutation}
use Rattle.std.proofs.lemmas.List.Elements.{All-nil, All-push, All-contains, Contains-append_left, Contains-push}
use Rattle.std.proofs.lemmas.List.Sorted.{IsPermutation-refl, IsPermutation-sym, IsPermutation-trans, IsPermutation-append_right, IsPermutation-middle}
use Rattle.std.proofs.lemmas.List.Sorted.{IsPermutation-append_comm}
use Rattle.traces.specs.View.{View}
use Rattle.traces.proofs.Bools.{on_bool}
use Rattle.exec_core.specs.Executions.{goes_on, AreSettledAfter}
use Rattle.exec_core.specs.declared.execution.Execution.{Execution as Concrete}
use Rattle.exec_core.proofs.Holding.{All-from_contains}

pub All-front : {X : Type 0} (P : X → Type 0) (xs fore : List X) (x : X) → xs ≡ fore ++ x ∷ [] → All P xs → All P fore
All-front P xs fore x e a = All-from_contains P fore (λ y c. All-contains P (fore ++ x ∷ []) y (subst (All P) e a) (Contains-append_left fore (x ∷ []) y c))

pub All-last : {X : Type 0} (P : X → Type 0) (xs fore : List X) (x : X) → xs ≡ fore ++ x ∷ [] → All P xs → P x
All-last P xs fore x e a = All-contains P (fore ++ x ∷ []) x (subst (All P) e a) (Contains-push fore x)

module _ {M S W C : Type 0} (V : View M S W C) (m : M) (budget : ℕ) where
  -- of all these executions some are left, and the others were put behind those that stood in the two lists
  pub record AreSettling (all rest lives_before lives ended_before ended : List (Concrete S)) : Type 0 where
    pub live : List (Concrete S)
    pub over : List (Concrete S)
    pub lives_are : lives ≡ lives_before ++ live
    pub ended_are : ended ≡ ended_before ++ over
    pub moved : IsPermutation all (rest ++ (live ++ over))
    pub all_live : All (λ l. goes_on V m budget l ≡ true) live
    pub all_over : All (λ l. goes_on V m budget l ≡ false) over

  pub settling_none : (all lives ended : List (Concrete S)) → AreSettling all all lives lives ended ended
  settling_none all lives ended = record {
    live = [];
    over = [];
    lives_are = sym (append-nil lives);
    ended_are = sym (append-nil ended);
    moved = subst (IsPermutation all) (sym (append-nil all)) (IsPermutation-refl all);
    all_live = All-nil _;
    all_over = All-nil _;
  }

-- the last one left is put into the front or the back of the settled ones
module _ {S : Type 0} where
  to_live : (fore live over : List (Concrete S)) (l : Concrete S) → IsPermutation ((fore ++ l ∷ []) ++ (live ++ over)) (fore ++ ((live ++ l ∷ []) ++ over))
  to_live fore live over l =
      subst (λ xs. IsPermutation xs (fore ++ ((live ++ l ∷ []) ++ over))) (sym (append_assoc fore (l ∷ []) (live ++ over))) (IsPermutation-append_right fore _ _
      (subst (IsPermutation (l ∷ (live ++ over))) (sym (append_assoc live (l ∷ []) over)) (IsPermutation-sym _ _ (IsPermutation-middle live l over))))

  to_over : (fore live over : List (Concrete S)) (l : Concrete S) → IsPermutation ((fore ++ l ∷ []) ++ (live ++ over)) (fore ++ (live ++ (over ++ l ∷ [])))
  to_over fore live over l =
      subst (λ xs. IsPermutation xs (fore ++ (live ++ (over ++ l ∷ [])))) (sym (append_assoc fore (l ∷ []) (live ++ over))) (IsPermutation-append_right fore _ _
      (subst (IsPermutation (l ∷ (live ++ over))) (append_assoc live over (l ∷ [])) (IsPermutation-append_comm (l ∷ []) (live ++ over))))

module _ {M S W C : Type 0} {V : View M S W C} {m : M} {budget : ℕ} where
  pub settling_more : {all rest lives_before lives lives_then ended_before ended ended_then : List (Concrete S)} (fore : List (Concrete S)) (l : Concrete S)
      → AreSettling V m budget all rest lives_before lives ended_before ended → rest ≡ fore ++ l ∷ []
      → (goes_on V m budget l ≡ true → (lives_then ≡ lives ++ l ∷ []) × (ended_then ≡ ended))
      → (goes_on V m budget l ≡ false → (lives_then ≡ lives) × (ended_then ≡ ended ++ l ∷ []))
      → AreSettling V m budget all fore lives_before lives_then ended_before ended_then
  settling_more {all} {lives_before = lives_before} {ended_before = ended_before} fore l i e f g =
      let p = subst (λ xs. IsPermutation all (xs ++ (i.live ++ i.over))) e i.moved in
      on_bool (goes_on V m budget l) (λ t. let h = f t in record {
        live = i.live ++ l ∷ [];
        over = i.over;
        lives_are = h.0 ∙ ap (λ xs. xs ++ l ∷ []) i.lives_are ∙ append_assoc lives_before i.live (l ∷ []);
        ended_are = h.1 ∙ i.ended_are;
        moved = IsPermutation-trans _ _ _ p (to_live fore i.live i.over l);
        all_live = All-push (λ x. goes_on V m budget x ≡ true) i.live l i.all_live t;
        all_over = i.all_over;
      }) (λ n. let h = g n in record {
        live = i.live;
        over = i.over ++ l ∷ [];
        lives_are = h.0 ∙ i.lives_are;
        ended_are = h.1 ∙ ap (λ xs. xs ++ l ∷ []) i.ended_are ∙ append_assoc ended_before i.over (l ∷ []);
        moved = IsPermutation-trans _ _ _ p (to_over fore i.live i.over l);
        all_live = i.all_live;
        all_over = All-push (λ x. goes_on V m budget x ≡ false) i.over l i.all_over n;
      })

  pub settled : {all rest lives_before lives ended_before ended : List (Concrete S)} → AreSettling V m budget all rest lives_before lives ended_before ended
      → rest ≡ [] → AreSettledAfter V m budget all lives_before lives ended_before ended
  settled {all} i e = record {
    live = i.live;
    over = i.over;
    lives_are = i.lives_are;
    ended_are = i.ended_are;
    settled = record { moved = subst (λ xs. IsPermutation all (xs ++ (i.live ++ i.over))) e i.moved; live = i.all_live; over = i.all_over };
  }
