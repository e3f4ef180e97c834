-- Where no execution is live, the executions are the classes of equal traces.
use Rattle.std.proofs.Common.{◌≡◌, ℕ, ◌≤◌, ◌<◌, Bool, true, false, ◌&&◌, not, cond, List, [], ◌∷◌, length, take, refl, sym, ap, ◌∙◌, subst, arith, ⊎_elim}
use Rattle.std.specs.List.{filter, flat_map, list_any, count_by, sum_by, All, Contains}
use Rattle.std.specs.Cmp.Lexicographic.{pointwise}
use Rattle.std.proofs.lemmas.Bool.{cases_lt}
use Rattle.std.proofs.lemmas.List.{take_all}
use Rattle.std.proofs.lemmas.List.Elements.{filter_agree, All-contains}
use Rattle.std.proofs.lemmas.List.Sums.{sum_by-cons}
use Rattle.std.proofs.lemmas.List.Sorted.{sum_by-IsPermutation}
use Rattle.traces.specs.Meanings.{IsSameTest}
use Rattle.traces.specs.Trace.{Trial, trace, state_at}
use Rattle.traces.specs.Together.{below, together, class_of, AreTogether}
use Rattle.traces.specs.Work.{executions}
use Rattle.traces.specs.Configuration.{Execution, is_live, IsExecution, IsConfiguration}
use Rattle.traces.proofs.Bools.{same_bools, on_bool}
use Rattle.traces.proofs.Lists.{count_by-filter, from_filter}
use Rattle.traces.proofs.Below.{count_below, any_below, one_least}
use Rattle.traces.proofs.Together.{AreTogether-from, together_from, both_go_on, lists_sound, lists_same}
use Rattle.traces.proofs.Turns.{some_first, any_from}
use Rattle.traces.proofs.Cost.{step_is, sum_by_where, sum_by-flat_map}

module _ {S C : Type 0} (T : Trial S C) (same : IsSameTest T.meanings) where
  abbrev pub same_trace : ℕ → ℕ → Bool
  same_trace m k = pointwise T.meanings.same (trace T m) (trace T k)

  equal_traces : (m k : ℕ) → same_trace m k ≡ true → trace T m ≡ trace T k
  equal_traces m k h = lists_sound T.meanings.same same.sound (trace T m) (trace T k) h

  from_equal : (m k : ℕ) → trace T m ≡ trace T k → same_trace m k ≡ true
  from_equal m k e = subst (λ cs. pointwise T.meanings.same (trace T m) cs ≡ true) e (lists_same T.meanings.same same.complete (trace T m))

  -- a mutant that is together with m at the end of its trace has the same trace
  same_to_the_end : (m k : ℕ) → AreTogether T m k (length (trace T m)) → trace T m ≡ trace T k
  same_to_the_end m k t =
      let n = length (trace T m) in
      let r : AreTogether T k m n = record { reached = t.other_reached; other_reached = t.reached; equal = sym t.equal } in
      ⊎_elim
      (λ (l : n < length (trace T k)). absurd (let b = both_go_on T same k m n r l in omega arith))
      (λ (g : length (trace T k) ≤ n). sym (take_all n (trace T m) (omega arith)) ∙ t.equal ∙ take_all n (trace T k) g)
      (cases_lt n (length (trace T k)))

  together_at_the_end : (m k : ℕ) → together T m k (length (trace T m)) ≡ same_trace m k
  together_at_the_end m k = same_bools _ _
      (λ h. from_equal m k (same_to_the_end m k (AreTogether-from T same m k _ h)))
      (λ h. let e = equal_traces m k h in together_from T same m k (length (trace T m))
      (record {
        reached = omega arith;
        other_reached = subst (λ cs. length (trace T m) ≤ length cs) e (omega arith);
        equal =
            ap (take (length (trace T m))) e;
      }))

  module _ (e : Execution S) (is : IsExecution T e) (over : is_live T e ≡ false) where
    -- the members of an execution that isn't live are the mutants with one trace
    pub ended_members : (m : ℕ) → Contains e.members m → e.members ≡ filter (same_trace m) (below T.mutants)
    unfolding class_of
    ended_members m c =
        is.class m c ∙ ap (class_of T m) (step_is T same (λ a b. 0) e is over m c)
        ∙ filter_agree (λ k. together T m k (length (trace T m))) (same_trace m) (together_at_the_end m) (below T.mutants)

    -- and its state is the one that they end in
    pub ended_state : (m : ℕ) → Contains e.members m → e.state ≡ state_at T m (length (trace T m))
    ended_state m c = is.state m c ∙ ap (state_at T m) (step_is T same (λ a b. 0) e is over m c)

  abbrev has_new_trace : ℕ → Bool
  has_new_trace m = not (list_any (λ k. same_trace k m) (below m))

  same_trace_sym : (m k : ℕ) → same_trace m k ≡ same_trace k m
  same_trace_sym m k = same_bools _ _ (λ h. from_equal k m (sym (equal_traces m k h))) (λ h. from_equal m k (sym (equal_traces k m h)))

  one_new_trace : (e : Execution S) → IsExecution T e → is_live T e ≡ false → count_by has_new_trace e.members ≡ 1
  one_new_trace e is over =
      let f = some_first e.members is.some in let m = f.0 in
      ap (count_by has_new_trace) (ended_members e is over m f.1)
      ∙ count_by-filter has_new_trace (same_trace m) (below T.mutants)
      ∙ count_below (λ y. same_trace m y && has_new_trace y) (λ y. same_trace m y && not (list_any (same_trace m) (below y))) T.mutants
      (λ y l. on_bool (same_trace m y)
      (λ t. ap (λ b. same_trace m y && not b) (any_below (λ k. same_trace k y) (same_trace m) y
      (λ k j. same_trace_sym k y ∙ ap (λ cs. pointwise T.meanings.same cs (trace T k)) (sym (equal_traces m y t)))))
      (λ n. rw n refl))
      ∙ one_least (same_trace m) T.mutants (any_from (same_trace m) (below T.mutants) m
      (from_filter (same_trace m) (below T.mutants) m (subst (λ ms. Contains ms m) (ended_members e is over m f.1) f.1)).0 (from_equal m m refl))

  count_ones : (es : List (Execution S)) → sum_by (λ e. 1) es ≡ length es
  count_ones [] = refl
  count_ones (e ∷ es) = rw (sum_by-cons (λ e. 1) e es) (let i = count_ones es in omega arith)

  -- there are as many executions as different traces
  pub ended_count : (es : List (Execution S)) → IsConfiguration T es → All (λ e. is_live T e ≡ false) es → length es ≡ executions T
  ended_count es c over =
      sym (count_ones es)
      ∙ sum_by_where (λ e. 1) (λ e. count_by has_new_trace e.members) es
      (λ e i. sym (one_new_trace e (All-contains (IsExecution T) es e c.each i) (All-contains (λ a. is_live T a ≡ false) es e over i)))
      ∙ sym (sum_by-flat_map (λ m. cond (has_new_trace m) 1 0) (λ e. e.members) es)
      ∙ sum_by-IsPermutation (λ m. cond (has_new_trace m) 1 0) (below T.mutants) (flat_map (λ e. e.members) es) c.once
