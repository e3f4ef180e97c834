-- Turns of live executions come to an end, so each case has a run after which none is live.
use Rattle.std.proofs.Common.{◌≡◌, ℕ, zero, suc, ◌+◌, ◌≤◌, ◌<◌, ◌⊎◌, inl, inr, true, false, List, [], ◌∷◌, length, slice_get, Some, refl, arith, ⊎_elim}
use Rattle.std.specs.List.{sum_by, All}
use Rattle.std.proofs.lemmas.List.Elements.{All-nil, All-cons}
use Rattle.std.proofs.lemmas.List.Sums.{sum_by-cons}
use Rattle.traces.specs.Meanings.{IsSameTest}
use Rattle.traces.specs.Trace.{Trial}
use Rattle.traces.specs.Work.{total_cost}
use Rattle.traces.specs.Cost.{cost_so_far}
use Rattle.traces.specs.Configuration.{Execution, opening, is_live, turn, run, IsConfiguration}
use Rattle.traces.proofs.Bools.{on_bool}
use Rattle.traces.proofs.Cost.{spent_of_turn, spent_at_most}
use Rattle.traces.proofs.Turns.{at_index, turn_keeps, opening_is}
use Rattle.accmut_laws.specs.Shares.{IsWhole}

some_cost : (ms : List ℕ) → 0 < length ms → 1 ≤ sum_by (λ m. 1) ms
some_cost [] h = absurd (omega (arith, h))
some_cost (m ∷ ms) h = rw (sum_by-cons (λ k. 1) m ms) (omega arith)

module _ {S C : Type 0} (T : Trial S C) (same : IsSameTest T.meanings) where
  record Live (es : List (Execution S)) : Type 0 where
    place : ℕ
    execution : Execution S
    there : slice_get es place ≡ Some execution
    live : is_live T execution ≡ true

  find_live : (es : List (Execution S)) → Live es ⊎ All (λ e. is_live T e ≡ false) es
  find_live [] = inr (All-nil _)
  find_live (e ∷ es) = on_bool (is_live T e)
      (λ t. inl (record { place = 0; execution = e; there = refl; live = t }))
      (λ f. ⊎_elim
      (λ (l : Live es). inl (record { place = suc l.place; execution = l.execution; there = l.there; live = l.live }))
      (λ (a : All (λ e. is_live T e ≡ false) es). inr (All-cons (λ e. is_live T e ≡ false) e es f a))
      (find_live es))

  -- a turn of a live execution costs a step of each of its members
  spends : (es : List (Execution S)) → IsConfiguration T es → (l : Live es) → cost_so_far (λ m n. 1) es + 1 ≤ cost_so_far (λ m n. 1) (turn T es l.place)
  spends es c l =
      let spent = spent_of_turn T same (λ m n. 1) es l.place l.execution l.there c l.live in
      let some = some_cost l.execution.members (at_index T same es l.place l.execution l.there c).some in
      omega (arith, spent, some)

  ends : (fuel : ℕ) (es : List (Execution S)) → IsConfiguration T es → total_cost T (λ m n. 1) ≤ cost_so_far (λ m n. 1) es + fuel
      → (turns : List ℕ) × All (λ e. is_live T e ≡ false) (run T es turns)
  ends zero es c h = ⊎_elim
      (λ l. let more = spends es c l in let most = spent_at_most T same (λ m n. 1) (turn T es l.place) (turn_keeps T same es l.place c) in
      absurd (omega (arith, more, most, h)))
      (λ a. ([], a)) (find_live es)
  ends (suc fuel) es c h = ⊎_elim
      (λ l. let more = spends es c l in
      let r = ends fuel (turn T es l.place) (turn_keeps T same es l.place c) (omega (arith, more, h)) in
      (l.place ∷ r.0, r.1))
      (λ a. ([], a)) (find_live es)

  pub whole_run : 0 < T.mutants → (turns : List ℕ) × IsWhole T turns
  whole_run some = ends (total_cost T (λ m n. 1)) (opening T) (opening_is T same some) (omega arith)
