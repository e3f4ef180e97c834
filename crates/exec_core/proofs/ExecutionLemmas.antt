-- Pieces through the calls that apply their changes.
use Rattle.std.proofs.Common.{◌≡◌, ◌≢◌, ℕ, List, [], ◌∷◌, ◌++◌, map, reverse, nat_eq, refl, sym, ap, ◌∙◌, subst, append_assoc, append-nil}
use Rattle.std.specs.List.{All, Contains, IsDistinct}
use Rattle.std.proofs.lemmas.List.{map-append, reverse-append}
use Rattle.std.proofs.lemmas.List.Elements.{All-nil, All-push, All-contains, Contains-append_left, Contains-append_right, Contains-push}
use Rattle.traces.specs.View.{View, IsLawful, Keeps, KeepsReady}
use Rattle.exec_core.specs.Children.{numbers_of, IsReadied}
use Rattle.exec_core.specs.Executions.{execution_of, state_numbers, applied_of, AreApplying}
use Rattle.exec_core.specs.declared.divide.Child.{Child}
use Rattle.exec_core.specs.declared.execution.Execution.{Execution as Concrete}
use Rattle.exec_core.proofs.Holding.{single, All-from_contains, keeps_none, keeps_more}
use Rattle.exec_core.proofs.ChildLemmas.{map_where, contains_map, others_differ, moved_distinct, readied_kept}

module _ {M S W C : Type 0} (V : View M S W C) (lawful : IsLawful V) where
  pub applying_all : (a : M) (step : ℕ) (all : List (Child S C)) → All (IsReadied V a) all → IsDistinct nat_eq (numbers_of V all)
      → AreApplying V a a step all all []
  applying_all a step all r d = record {
    left = r;
    out = All-nil _;
    seen = append-nil _;
    numbers = append-nil _;
    distinct = subst (IsDistinct nat_eq) (sym (append-nil (numbers_of V all))) d;
    out_numbers = refl;
    keeps = keeps_none V lawful a _;
  }

  -- the change of p is applied, which gives q
  pub record Applies (old new : M) (step : ℕ) (p : Child S C) (q : Concrete S) : Type 0 where
    pub number : V.number q.state ≡ V.number p.state
    pub members : q.members ≡ p.members
    pub stepped : q.step ≡ step
    pub out : V.is_out new q.state
    pub after : V.stands new q.state ≡ (V.meanings old).after (V.stands old p.state) p.change
    pub out_numbers : V.out_numbers new ≡ V.out_numbers old
    pub keeps : Keeps V old new (V.number p.state ∷ [])
    pub keeps_ready : KeepsReady V old new (V.number p.state ∷ [])

  module _ (a b c : M) (step : ℕ) (all fore : List (Child S C)) (made : List (Concrete S)) (p : Child S C) (q : Concrete S)
      (i : AreApplying V a b step all (fore ++ p ∷ []) made) (t : Applies b c step p q) where
    numbers_are : numbers_of V (fore ++ p ∷ []) ≡ numbers_of V fore ++ V.number p.state ∷ []
    numbers_are = map-append (λ x. V.number x.state) fore (p ∷ [])

    apart : (k : ℕ) → Contains (numbers_of V fore ++ state_numbers V made) k → V.number p.state ≢ k
    apart k h = others_differ (numbers_of V fore) (V.number p.state) (state_numbers V made) k
        (subst (λ xs. IsDistinct nat_eq (xs ++ state_numbers V made)) numbers_are i.distinct) h

    fore_apart : (x : Child S C) → Contains fore x → V.number p.state ≢ V.number x.state
    fore_apart x h = apart _ (Contains-append_left _ _ _ (contains_map (λ y. V.number y.state) fore x h))

    made_apart : (x : Concrete S) → Contains made x → V.number p.state ≢ V.number x.state
    made_apart x h = apart _ (Contains-append_right (numbers_of V fore) _ _ (contains_map (λ y. V.number y.state) made x h))

    fore_readied : (x : Child S C) → Contains fore x → IsReadied V b x
    fore_readied x h = All-contains (IsReadied V b) (fore ++ p ∷ []) x i.left (Contains-append_left fore (p ∷ []) x h)

    made_out : (x : Concrete S) → Contains made x → V.is_out b x.state
    made_out x h = All-contains (λ l. V.is_out b l.state) made x i.out h

    made_stands : (x : Concrete S) → Contains made x → V.stands c x.state ≡ V.stands b x.state
    made_stands x h = t.keeps.stands x.state (made_out x h) (λ e. made_apart x h (single e))

    fore_stands : (x : Child S C) → Contains fore x → V.stands c x.state ≡ V.stands b x.state
    fore_stands x h = t.keeps.stands x.state ((fore_readied x h).planned.out) (λ e. fore_apart x h (single e))

    fore_seen : map (applied_of V c step) fore ≡ map (applied_of V b step) fore
    fore_seen = map_where (applied_of V c step) (applied_of V b step) fore (λ x h. let s = fore_stands x h in let m = t.keeps.meanings in cc)

    made_seen : map (execution_of V c) made ≡ map (execution_of V b) made
    made_seen = map_where (execution_of V c) (execution_of V b) made (λ x h. let s = made_stands x h in cc)

    q_seen : execution_of V c q ≡ applied_of V b step p
    q_seen = let s = t.after in let m = t.members in let n = t.stepped in cc

    seen_split : (map (applied_of V b step) fore ++ applied_of V b step p ∷ []) ++ reverse (map (execution_of V b) made) ≡ map (applied_of V a step) all
    seen_split = ap (λ xs. xs ++ reverse (map (execution_of V b) made)) (sym (map-append (applied_of V b step) fore (p ∷ []))) ∙ i.seen

    numbers_split : (numbers_of V fore ++ V.number p.state ∷ []) ++ reverse (state_numbers V made) ≡ numbers_of V all
    numbers_split = ap (λ xs. xs ++ reverse (state_numbers V made)) (sym numbers_are) ∙ i.numbers

    p_inside : Contains (numbers_of V all) (V.number p.state)
    p_inside = subst (λ xs. Contains xs (V.number p.state)) numbers_split (Contains-append_left _ _ _ (Contains-push (numbers_of V fore) (V.number p.state)))

    pub applying_more : AreApplying V a c step all fore (made ++ q ∷ [])
    applying_more = record {
      left = All-from_contains (IsReadied V c) fore (λ x h. readied_kept V lawful b c _ t.keeps t.keeps_ready x (fore_apart x h) (fore_readied x h));
      out = All-push (λ l. V.is_out c l.state) made q (All-from_contains (λ l. V.is_out c l.state) made
          (λ x h. t.keeps.out x.state (made_out x h) (λ e. made_apart x h (single e)))) t.out;
      seen = ap (λ xs. map (applied_of V c step) fore ++ reverse xs) (map-append (execution_of V c) made (q ∷ []))
          ∙ ap (λ xs. map (applied_of V c step) fore ++ xs) (reverse-append (map (execution_of V c) made) (execution_of V c q ∷ []))
          ∙ ap (λ x. map (applied_of V c step) fore ++ (x ∷ reverse (map (execution_of V c) made))) q_seen
          ∙ ap (λ xs. xs ++ (applied_of V b step p ∷ reverse (map (execution_of V c) made))) fore_seen
          ∙ ap (λ xs. map (applied_of V b step) fore ++ (applied_of V b step p ∷ reverse xs)) made_seen
          ∙ sym (append_assoc (map (applied_of V b step) fore) (applied_of V b step p ∷ []) (reverse (map (execution_of V b) made))) ∙ seen_split;
      numbers = ap (λ xs. numbers_of V fore ++ reverse xs) (map-append (λ l. V.number l.state) made (q ∷ []))
          ∙ ap (λ xs. numbers_of V fore ++ xs) (reverse-append (state_numbers V made) (V.number q.state ∷ []))
          ∙ ap (λ n. numbers_of V fore ++ (n ∷ reverse (state_numbers V made))) t.number
          ∙ sym (append_assoc (numbers_of V fore) (V.number p.state ∷ []) (reverse (state_numbers V made))) ∙ numbers_split;
      distinct = subst (λ xs. IsDistinct nat_eq (numbers_of V fore ++ xs)) (ap (λ n. state_numbers V made ++ n ∷ []) (sym t.number)
          ∙ sym (map-append (λ l. V.number l.state) made (q ∷ []))) (moved_distinct (numbers_of V fore) (V.number p.state) (state_numbers V made)
          (subst (λ xs. IsDistinct nat_eq (xs ++ state_numbers V made)) numbers_are i.distinct));
      out_numbers = t.out_numbers ∙ i.out_numbers;
      keeps = keeps_more V lawful a b c (numbers_of V all) (V.number p.state ∷ []) (numbers_of V all) (λ k h. h)
          (λ k h. subst (Contains (numbers_of V all)) (single h) p_inside) i.keeps t.keeps;
    }
