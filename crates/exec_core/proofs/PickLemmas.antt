-- An analysis whose live executions change places.
use Rattle.std.proofs.Common.{◌≡◌, ℕ, ◌+◌, true, List, ◌++◌, map, sym, ap, ◌∙◌, subst}
use Rattle.std.specs.List.{count_by}
use Rattle.std.specs.List.Sorted.{IsPermutation}
use Rattle.std.proofs.lemmas.List.Sorted.{IsPermutation-trans, IsPermutation-append_left, IsPermutation-map, All-permutation}
use Rattle.traces.specs.View.{View}
use Rattle.traces.specs.Trace.{Trial}
use Rattle.traces.specs.Configuration.{IsConfiguration}
use Rattle.traces.specs.Cost.{cost_so_far, step_cost, try_cost, load_cost, asks_cost, same_split, split_cost}
use Rattle.traces.proofs.Permutations.{configuration_moved}
use Rattle.exec_core.specs.Analysed.{IsGoing}
use Rattle.exec_core.specs.Engines.{split_seen}
use Rattle.exec_core.specs.Executions.{execution_of, goes_on}
use Rattle.exec_core.specs.Picked.{IsArranged}
use Rattle.exec_core.specs.Turned.{executions_of, IsHeld}
use Rattle.exec_core.specs.declared.engine.Engine.{Engine}
use Rattle.exec_core.specs.declared.execution.Execution.{Execution as Concrete}
use Rattle.exec_core.proofs.GoingLemmas.{moved_cost}

module _ {M S W C : Type 0} (V : View M S W C) (m : M) {before after : List (Concrete S)} (ended : List (Concrete S)) (p : IsPermutation before after) where
  all_moved : IsPermutation (before ++ ended) (after ++ ended)
  all_moved = IsPermutation-append_left ended _ _ p

  pub held_moved : {budget : ℕ} {others : List ℕ} → IsHeld V m budget others before ended → IsHeld V m budget others after ended
  held_moved {budget} {others} h = record {
    out = All-permutation (λ l. V.is_out m l.state) _ _ all_moved h.out;
    numbers = IsPermutation-trans _ _ _ h.numbers (IsPermutation-append_left others _ _ (IsPermutation-map (λ l. V.number l.state) _ _ all_moved));
    live = All-permutation (λ l. goes_on V m budget l ≡ true) _ _ p h.live;
    over = h.over;
  }

  pub seen_moved : IsPermutation (executions_of V m before ended) (executions_of V m after ended)
  seen_moved = IsPermutation-map (execution_of V m) _ _ all_moved

module _ {M S W C : Type 0} (V : View M S W C) (b : M) {E F : Engine S C} (arranged : IsArranged E F) where
  pub same_cost : (f : ℕ → ℕ → ℕ) → cost_so_far f (executions_of V b E.lives.items E.ended.items) ≡ cost_so_far f
      (executions_of V b F.lives.items F.ended.items)
  same_cost f = sym (moved_cost f _ _ (seen_moved V b E.ended.items arranged.moved))
      ∙ ap (λ es. cost_so_far f (executions_of V b F.lives.items es)) (sym arranged.ended)

  -- what an analysis has come to doesn't depend on the order
  pub going_arranged : {T : Trial W C} {a : M} {n k0 k : ℕ} → IsGoing V T a b n E k0 k → IsGoing V T a b n F k0 k
  going_arranged {T} {a} {n} {k0} g = record {
    held = λ xs p. subst (IsHeld V b T.budget xs F.lives.items) (sym arranged.ended) (held_moved V b E.ended.items arranged.moved (g.held xs p));
    keeps = g.keeps;
    config = subst (λ es. IsConfiguration T (executions_of V b F.lives.items es)) (sym arranged.ended)
        (configuration_moved T _ _ (seen_moved V b E.ended.items arranged.moved) g.config);
    counts = record {
      tried = g.counts.tried ∙ ap (λ x. (V.counts a).tried + x) (same_cost (try_cost T));
      applied = g.counts.applied ∙ ap (λ x. (V.counts a).applied + x) (same_cost (step_cost T));
      weighed = g.counts.weighed ∙ ap (λ x. (V.counts a).weighed + x) (same_cost (load_cost T));
      readied = g.counts.readied ∙ ap (λ x. (V.counts a).readied + x) (same_cost (load_cost T));
      asks = λ p. g.counts.asks p ∙ ap (λ x. (V.counts a).asks p + x) (same_cost (asks_cost T p));
    };
    meter = g.meter ∙ ap (λ x. k0 + x) (same_cost (step_cost T));
    tries = arranged.tries ∙ g.tries ∙ same_cost (try_cost T);
    alone = arranged.alone ∙ g.alone ∙ same_cost (λ m n. 1);
    splits = λ x. ap (λ ss. count_by (same_split x) (map split_seen ss)) arranged.splits ∙ g.splits x ∙ same_cost (split_cost T x);
  }
