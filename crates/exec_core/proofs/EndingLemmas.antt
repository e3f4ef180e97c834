-- What an analysis comes to once no execution goes on, and after a refusal.
use Rattle.std.proofs.Common.{◌≡◌, ℕ, ◌+◌, ◌≤◌, false, not, ◌&&◌, nat_lt, List, [], ◌∷◌, ◌++◌, length, map, slice_index, nat_eq, sym, ap, ◌∙◌, subst, arith}
use Rattle.std.proofs.Common.{append_assoc}
use Rattle.std.specs.List.{All, Contains, IsDistinct, sum_by, flat_map, remove}
use Rattle.std.specs.List.Sorted.{IsPermutation, IsNonDecreasingBy}
use Rattle.std.proofs.lemmas.List.{map-append}
use Rattle.std.proofs.lemmas.List.Folds.{flat_map-map}
use Rattle.std.proofs.lemmas.List.Elements.{All-map, All-contains, Contains-append_left, Contains-append_right}
use Rattle.std.proofs.lemmas.List.Sorted.{IsPermutation-sym, IsPermutation-trans, IsPermutation-cons, IsPermutation-map, IsPermutation-middle}
use Rattle.std.proofs.lemmas.List.Sorted.{IsPermutation-append_left, IsPermutation-append_right, IsPermutation-remove, All-permutation}
use Rattle.std.proofs.lemmas.Map.Keys.{IsDistinct-IsPermutation}
use Rattle.std.proofs.lemmas.Simd.{map-map}
use Rattle.code_form.specs.Variant.{Table}
use Rattle.traces.specs.View.{View, IsLawful, Keeps}
use Rattle.traces.specs.Meanings.{Meanings}
use Rattle.traces.specs.Trace.{Trial, trace}
use Rattle.traces.specs.Together.{below}
use Rattle.traces.specs.Work.{steps, tries, alone, executions, splits, total_cost}
use Rattle.traces.specs.Configuration.{Execution, is_live, IsExecution}
use Rattle.traces.specs.Cost.{cost_so_far, step_cost, try_cost, load_cost, asks_cost, split_cost}
use Rattle.traces.proofs.Below.{length-below}
use Rattle.traces.proofs.Cost.{all_spent, spent_at_most}
use Rattle.traces.proofs.Ends.{ended_count}
use Rattle.traces.proofs.Permutations.{cancel_front, flat_map_moved}
use Rattle.traces.proofs.Splits.{splits_written}
use Rattle.traces.proofs.Steps.{length_map}
use Rattle.exec_core.specs.Analysed.{IsGoing, IsStopped, AreClasses, end_of, class_from, class_numbers}
use Rattle.traces.specs.Counts.{RoseBy}
use Rattle.exec_core.specs.Counted.{totals}
use Rattle.traces.specs.Ends.{IsEnd}
use Rattle.exec_core.specs.Engines.{split_seen}
use Rattle.exec_core.specs.Executions.{execution_of, state_numbers}
use Rattle.code_form.specs.Trial.{trial_of}
use Rattle.exec_core.specs.Turned.{executions_of, IsHeld}
use Rattle.exec_core.specs.declared.engine.Engine.{Engine}
use Rattle.exec_core.specs.declared.execution.Execution.{Execution as Concrete}
use Rattle.exec_core.specs.declared.result.Class.{Class}
use Rattle.traces.proofs.WholeTraces.{ended_is}
use Rattle.exec_core.proofs.GoingLemmas.{ones}
use Rattle.exec_core.proofs.Holding.{All-from_contains, apart_lists}
use Rattle.exec_machine.proofs.Numbers.{flips, contains_rest}
use Rattle.exec_core.proofs.ChildLemmas.{contains_map}
use Rattle.exec_core.proofs.PrepareLemmas.{left_distinct, right_distinct}

alone_is : {W C : Type 0} (T : Trial W C) → total_cost T (λ m n. 1) ≡ alone T
alone_is T = ap (λ g. sum_by g (below T.mutants)) (λ i m. (ones (below (length (trace T m))) ∙ length-below (length (trace T m))) i)

module _ {M S W C : Type 0} {V : View M S W C} (lawful : IsLawful V) {a b : M} (table : Table) (start : W) (budget : ℕ) {n : ℕ} {E : Engine S C} {k0 k : ℕ}
    (going : IsGoing V (trial_of (V.meanings a) table start budget) a b n E k0 k) where
  abbrev T : Trial W C
  T = trial_of (V.meanings a) table start budget

  abbrev es : List (Execution W)
  es = executions_of V b E.lives.items E.ended.items

  -- what was counted so far is no more than the totals
  pub going_stops : IsStopped V T a b n E k0 k
  going_stops =
      let most : (f : ℕ → ℕ → ℕ) → cost_so_far f es ≤ total_cost T f = (λ f. spent_at_most T (lawful.same a) f es going.config) in
      record {
        held = going.held;
        keeps = going.keeps;
        counts = record {
          tried = (let m = most (try_cost T) in record { least = omega (arith, going.counts.tried); most = omega (arith, going.counts.tried, m) });
          applied = (let m = most (step_cost T) in record { least = omega (arith, going.counts.applied); most = omega (arith, going.counts.applied, m) });
          weighed = (let m = most (load_cost T) in record { least = omega (arith, going.counts.weighed); most = omega (arith, going.counts.weighed, m) });
          readied = (let m = most (load_cost T) in record { least = omega (arith, going.counts.readied); most = omega (arith, going.counts.readied, m) });
          asks = λ p. (let m = most (asks_cost T p) in record { least = omega (arith, going.counts.asks p); most = omega (arith, going.counts.asks p, m) });
        };
        meter = (let m = most (step_cost T) in record { least = omega (arith, going.meter); most = omega (arith, going.meter, m) });
        beside = omega (arith, going.meter, going.counts.applied);
      }

  pub meter_rose : k0 ≤ k
  meter_rose = omega (arith, going.meter)

  module _ (none : E.lives.items ≡ []) (o : Contains (V.out_numbers a) n) where
    abbrev rest : List ℕ
    rest = remove (V.out_numbers a) o.0

    beside : IsPermutation (V.out_numbers a) (n ∷ remove (V.out_numbers a) o.0)
    beside = IsPermutation-remove (V.out_numbers a) o.0 n o.1 (sym o.2)

    held : IsHeld V b budget (remove (V.out_numbers a) o.0) E.lives.items E.ended.items
    held = going.held (remove (V.out_numbers a) o.0) beside

    es_are : es ≡ map (execution_of V b) E.ended.items
    es_are = ap (λ xs. map (execution_of V b) (xs ++ E.ended.items)) none

    over : All (λ e. is_live T e ≡ false) es
    over = subst (All (λ e. is_live T e ≡ false)) (sym es_are) (All-map (λ e. is_live T e ≡ false) (execution_of V b) E.ended.items
        (subst (λ (A : Meanings W C). All (λ (l : Concrete S). (not (A.ended (V.stands b l.state)) && nat_lt l.step budget) ≡ false) E.ended.items)
        going.keeps.meanings held.over))

    paid : (f : ℕ → ℕ → ℕ) → cost_so_far f es ≡ total_cost T f
    paid f = all_spent T (lawful.same a) f es going.config over

    pub all_counts : RoseBy (V.counts a) (V.counts b) (totals T)
    all_counts = record {
      tried = going.counts.tried ∙ ap (λ x. (V.counts a).tried + x) (paid (try_cost T));
      applied = going.counts.applied ∙ ap (λ x. (V.counts a).applied + x) (paid (step_cost T));
      weighed = going.counts.weighed ∙ ap (λ x. (V.counts a).weighed + x) (paid (load_cost T));
      readied = going.counts.readied ∙ ap (λ x. (V.counts a).readied + x) (paid (load_cost T));
      asks = λ p. going.counts.asks p ∙ ap (λ x. (V.counts a).asks p + x) (paid (asks_cost T p));
    }

    pub all_steps : k ≡ k0 + steps T
    all_steps = going.meter ∙ ap (λ x. k0 + x) (paid (step_cost T))

    pub all_tries : E.tries ≡ tries T
    all_tries = going.tries ∙ paid (try_cost T)

    pub all_alone : E.alone ≡ alone T
    all_alone = going.alone ∙ paid (λ m n. 1) ∙ alone_is T

    pub all_executions : length E.ended.items ≡ executions T
    all_executions = sym (length_map (execution_of V b) E.ended.items) ∙ ap length (sym es_are) ∙ ended_count T (lawful.same a) es going.config over

    pub all_splits : IsPermutation (map split_seen E.splits.items) (splits T)
    all_splits = splits_written T (map split_seen E.splits.items) (λ x. going.splits x ∙ paid (split_cost T x))

    module _ {classes : List (Class S)} (moved : IsPermutation (map class_from E.ended.items) classes) where
      ends : (l : Concrete S) → Contains E.ended.items l → IsEnd T (execution_of V b l)
      ends l c =
          let there : Contains es (execution_of V b l) = subst (λ xs. Contains xs (execution_of V b l)) (sym es_are)
          (contains_map (execution_of V b) E.ended.items l c) in
          ended_is T (lawful.same a) (execution_of V b l) (All-contains (IsExecution T) es (execution_of V b l) going.config.each there)
          (All-contains (λ e. is_live T e ≡ false) es (execution_of V b l) over there)

      pub are_classes : IsNonDecreasingBy (λ c. slice_index c.members 0) classes → AreClasses V T b classes
      are_classes rising = record {
        once = IsPermutation-trans _ _ _ going.config.once
            (subst (λ xs. IsPermutation xs (flat_map (λ (c : Class S). c.members) classes))
            (flat_map-map (λ (c : Class S). c.members) class_from E.ended.items
            ∙ sym (ap (flat_map (λ (e : Execution W). e.members)) es_are ∙ flat_map-map (λ (e : Execution W). e.members) (execution_of V b) E.ended.items))
            (flat_map_moved (λ (c : Class S). c.members) (map class_from E.ended.items) classes moved));
        each = All-permutation (λ c. IsEnd T (end_of V b c)) _ _ moved
            (All-map (λ c. IsEnd T (end_of V b c)) class_from E.ended.items (All-from_contains (λ l. IsEnd T (execution_of V b l)) E.ended.items ends));
        rising = rising;
        out = All-permutation (λ c. V.is_out b c.state) _ _ moved
            (All-map (λ (c : Class S). V.is_out b c.state) class_from E.ended.items
            (All-from_contains (λ (l : Concrete S). V.is_out b l.state) E.ended.items
            (λ l c. All-contains (λ (x : Concrete S). V.is_out b x.state) (E.lives.items ++ E.ended.items) l held.out
            (Contains-append_right E.lives.items E.ended.items l c))));
      }

      pub states_out : IsPermutation (n ∷ V.out_numbers b) (class_numbers V classes ++ V.out_numbers a)
      states_out =
          let ns = state_numbers V E.ended.items in let r = remove (V.out_numbers a) o.0 in let cs = class_numbers V classes in
          let out : IsPermutation (V.out_numbers b) (ns ++ r) = subst (λ xs. IsPermutation (V.out_numbers b) (state_numbers V (xs ++ E.ended.items) ++ r)) none
          held.numbers in
          let same : IsPermutation ns cs = subst (λ xs. IsPermutation xs cs) (map-map (λ (c : Class S). V.number c.state) class_from E.ended.items)
          (IsPermutation-map (λ (c : Class S). V.number c.state) _ _ moved) in
          IsPermutation-trans _ _ _ (IsPermutation-cons n _ _ out) (IsPermutation-trans _ _ _ (IsPermutation-sym _ _ (IsPermutation-middle ns n r))
          (IsPermutation-trans _ _ _ (IsPermutation-append_right ns _ _ (IsPermutation-sym _ _ beside)) (IsPermutation-append_left (V.out_numbers a) _ _ same)))

-- after a refusal all states of the executions are released
module _ {M S W C : Type 0} {V : View M S W C} (lawful : IsLawful V) {T : Trial W C} {a b : M} {n : ℕ} {E : Engine S C} {k0 k : ℕ}
    (stopped : IsStopped V T a b n E k0 k) (o : Contains (V.out_numbers a) n) where
  abbrev all : List (Concrete S)
  all = E.lives.items ++ E.ended.items

  left_beside : IsPermutation (V.out_numbers a) (n ∷ remove (V.out_numbers a) o.0)
  left_beside = IsPermutation-remove (V.out_numbers a) o.0 n o.1 (sym o.2)

  left_held : IsHeld V b T.budget (remove (V.out_numbers a) o.0) E.lives.items E.ended.items
  left_held = stopped.held (remove (V.out_numbers a) o.0) left_beside

  pub left_out : All (λ l. V.is_out b l.state) (E.lives.items ++ E.ended.items)
  left_out = left_held.out

  whole_distinct : IsDistinct nat_eq (state_numbers V (E.lives.items ++ E.ended.items) ++ remove (V.out_numbers a) o.0)
  whole_distinct = IsDistinct-IsPermutation nat_eq flips (V.out_numbers b) _ left_held.numbers (lawful.distinct b)

  pub left_distinct_numbers : IsDistinct nat_eq (state_numbers V (E.lives.items ++ E.ended.items))
  left_distinct_numbers = left_distinct (state_numbers V (E.lives.items ++ E.ended.items)) (remove (V.out_numbers a) o.0) whole_distinct

  module _ {c : M} (p : IsPermutation (V.out_numbers b) (state_numbers V (E.lives.items ++ E.ended.items) ++ V.out_numbers c))
      (q : Keeps V b c (state_numbers V (E.lives.items ++ E.ended.items))) where
    pub released : IsPermutation (V.out_numbers a) (n ∷ V.out_numbers c)
    released =
        let ns = state_numbers V (E.lives.items ++ E.ended.items) in let r = remove (V.out_numbers a) o.0 in
        IsPermutation-trans _ _ _ left_beside (IsPermutation-cons n _ _ (cancel_front ns r (V.out_numbers c)
        (IsPermutation-trans _ _ _ (IsPermutation-sym _ _ left_held.numbers) p)))

    none_of_ours : (j : ℕ) → Contains (V.out_numbers a) j → (Contains (n ∷ []) j → ⊥) → Contains (state_numbers V (E.lives.items ++ E.ended.items)) j → ⊥
    none_of_ours j i ne h = apart_lists (state_numbers V (E.lives.items ++ E.ended.items)) (remove (V.out_numbers a) o.0) j whole_distinct h
        (contains_rest (V.out_numbers a) (remove (V.out_numbers a) o.0) n j left_beside i
        (λ e. ne (subst (Contains (n ∷ [])) (sym e) (Rattle.traces.proofs.Lists.contains_here n []))))

    pub still_keeps : Keeps V a c (n ∷ [])
    still_keeps = record {
      meanings = q.meanings ∙ stopped.keeps.meanings;
      stays = lawful.stays_trans a b c stopped.keeps.stays q.stays;
      out = λ t i ne. q.out t (stopped.keeps.out t i ne) (none_of_ours (V.number t) (lawful.among a t i) ne);
      stands = λ t i ne. q.stands t (stopped.keeps.out t i ne) (none_of_ours (V.number t) (lawful.among a t i) ne) ∙ stopped.keeps.stands t i ne;
    }

-- the executions in two lists, of which the one is released before the other
module _ {M S W C : Type 0} (V : View M S W C) (lawful : IsLawful V) (a : M) (lives ended : List (Concrete S))
    (o : All (λ l. V.is_out a l.state) (lives ++ ended))
    (d : IsDistinct nat_eq (state_numbers V (lives ++ ended))) where
  numbers_both : state_numbers V (lives ++ ended) ≡ state_numbers V lives ++ state_numbers V ended
  numbers_both = map-append (λ l. V.number l.state) lives ended

  both_distinct : IsDistinct nat_eq (state_numbers V lives ++ state_numbers V ended)
  both_distinct = subst (IsDistinct nat_eq) numbers_both d

  pub lives_out : All (λ l. V.is_out a l.state) lives
  lives_out = All-from_contains (λ l. V.is_out a l.state) lives (λ l c. All-contains (λ x. V.is_out a x.state) (lives ++ ended) l o
      (Contains-append_left lives ended l c))

  pub lives_distinct : IsDistinct nat_eq (state_numbers V lives)
  lives_distinct = left_distinct (state_numbers V lives) (state_numbers V ended) both_distinct

  pub ended_distinct : IsDistinct nat_eq (state_numbers V ended)
  ended_distinct = right_distinct (state_numbers V lives) (state_numbers V ended) both_distinct

  module _ (b : M) (k : Keeps V a b (state_numbers V lives)) where
    pub ended_out : All (λ l. V.is_out b l.state) ended
    ended_out = All-from_contains (λ l. V.is_out b l.state) ended (λ l c.
        k.out l.state (All-contains (λ x. V.is_out a x.state) (lives ++ ended) l o (Contains-append_right lives ended l c))
        (λ h. apart_lists (state_numbers V lives) (state_numbers V ended) (V.number l.state) both_distinct h (contains_map (λ x. V.number x.state) ended l c)))

    module _ (c : M) (p : IsPermutation (V.out_numbers a) (state_numbers V lives ++ V.out_numbers b))
        (q : IsPermutation (V.out_numbers b) (state_numbers V ended ++ V.out_numbers c)) (j : Keeps V b c (state_numbers V ended)) where
      pub both_released : IsPermutation (V.out_numbers a) (state_numbers V (lives ++ ended) ++ V.out_numbers c)
      both_released = subst (λ xs. IsPermutation (V.out_numbers a) (xs ++ V.out_numbers c)) (sym numbers_both)
          (subst (IsPermutation (V.out_numbers a)) (sym (append_assoc (state_numbers V lives) (state_numbers V ended) (V.out_numbers c)))
          (IsPermutation-trans _ _ _ p (IsPermutation-append_right (state_numbers V lives) _ _ q)))

      in_lives : (x : ℕ) → (Contains (state_numbers V (lives ++ ended)) x → ⊥) → Contains (state_numbers V lives) x → ⊥
      in_lives x ne h = ne (subst (λ ns. Contains ns x) (sym numbers_both) (Contains-append_left (state_numbers V lives) (state_numbers V ended) x h))

      in_ended : (x : ℕ) → (Contains (state_numbers V (lives ++ ended)) x → ⊥) → Contains (state_numbers V ended) x → ⊥
      in_ended x ne h = ne (subst (λ ns. Contains ns x) (sym numbers_both) (Contains-append_right (state_numbers V lives) (state_numbers V ended) x h))

      pub both_keep : Keeps V a c (state_numbers V (lives ++ ended))
      both_keep = record {
        meanings = j.meanings ∙ k.meanings;
        stays = lawful.stays_trans a b c k.stays j.stays;
        out = λ t i ne. j.out t (k.out t i (in_lives _ ne)) (in_ended _ ne);
        stands = λ t i ne. j.stands t (k.out t i (in_lives _ ne)) (in_ended _ ne) ∙ k.stands t i (in_lives _ ne);
      }
