-- An execution that makes its change in its place.
use Rattle.std.proofs.Common.{◌≡◌, ℕ, ◌+◌, ◌<◌, length, true, false, List, [], ◌∷◌, ◌++◌, map, set, get_or, refl, sym, ap, ◌∙◌, subst, append-nil}
use Rattle.std.specs.List.{All, swap_remove}
use Rattle.std.specs.List.Sorted.{IsPermutation}
use Rattle.std.proofs.lemmas.List.Elements.{All-cons, All-nil}
use Rattle.std.proofs.lemmas.List.Sorted.{IsPermutation-refl}
use Rattle.traces.specs.View.{View}
use Rattle.exec_core.specs.Executions.{execution_of, goes_on, state_numbers}
use Rattle.exec_core.specs.Divided.{child_of}
use Rattle.exec_core.specs.Picked.{IsReplaced}
use Rattle.exec_core.specs.Turned.{Advanced, HasStepped, IsSettledThere}
use Rattle.exec_core.specs.declared.execution.Execution.{Execution as Concrete}
use Rattle.exec_core.specs.declared.in_place.Taken.{Taken}
use Rattle.exec_core.specs.declared.in_place.Taken.TheVariants.{GoesOn, Ended, Parted}
use Rattle.exec_core.proofs.OrderLemmas.{left_same, set_moved}

module _ {M S W C : Type 0} {V : View M S W C} {a c : M} {e made : Concrete S} {change : C} {k0 k1 : ℕ} (s : HasStepped V a c e change made k0 k1) where
  made_seen : child_of V a e (e.members, change) ≡ execution_of V c made
  made_seen = let n = s.step in let m = s.members in let w = s.stands in cc

  seen : IsPermutation (child_of V a e (e.members, change) ∷ []) (execution_of V c made ∷ [])
  seen = subst (λ x. IsPermutation (child_of V a e (e.members, change) ∷ []) (x ∷ [])) made_seen (IsPermutation-refl _)

  numbers : IsPermutation (V.number made.state ∷ V.out_numbers a) (V.number e.state ∷ V.out_numbers c)
  numbers = subst (λ n. IsPermutation (n ∷ V.out_numbers a) (V.number e.state ∷ V.out_numbers c)) (sym s.number)
      (subst (λ ns. IsPermutation (V.number e.state ∷ V.out_numbers a) (V.number e.state ∷ ns)) (sym s.out_numbers) (IsPermutation-refl _))

  module _ (budget at : ℕ) (lives lives_after ended ended_after : List (Concrete S)) (l : at < length lives) where
    pub steps_on : (taken : Taken) → IsSettledThere V c budget at made taken (set lives at made) lives_after ended ended_after
        → Advanced V a c budget e ((e.members, change) ∷ []) (swap_remove lives at e) lives_after ended ended_after
    steps_on GoesOn t = record {
      live = made ∷ [];
      over = [];
      lives_are = subst (IsPermutation (swap_remove lives at e ++ made ∷ [])) (sym t.1) (set_moved lives at l e made);
      ended_are = t.2 ∙ sym (append-nil ended);
      all_live = All-cons (λ x. goes_on V c budget x ≡ true) made [] t.0 (All-nil _);
      all_over = All-nil _;
      out = All-cons (λ x. V.is_out c x.state) made [] s.out (All-nil _);
      seen = seen;
      numbers = numbers;
      keeps = s.keeps;
    }
    steps_on Ended t = record {
      live = [];
      over = made ∷ [];
      lives_are = subst (IsPermutation (swap_remove lives at e ++ [])) (append-nil (swap_remove lives at e) ∙ sym (t.1 ∙ left_same lives at l e made))
          (IsPermutation-refl _);
      ended_are = t.2;
      all_live = All-nil _;
      all_over = All-cons (λ x. goes_on V c budget x ≡ false) made [] t.0 (All-nil _);
      out = All-cons (λ x. V.is_out c x.state) made [] s.out (All-nil _);
      seen = seen;
      numbers = numbers;
      keeps = s.keeps;
    }
    steps_on Parted t = absurd t

    pub replaced_there : (taken : Taken) → made.members ≡ (get_or lives at made).members
        → IsSettledThere V c budget at made taken (set lives at made) lives_after ended ended_after → IsReplaced taken at lives lives_after
    replaced_there GoesOn k t = (made, k, t.1)
    replaced_there Ended k t = (made, t.1 ∙ left_same lives at l made made)
    replaced_there Parted k t = absurd t
