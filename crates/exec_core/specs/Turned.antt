-- What a turn makes of the executions.
--     executions_of m lives ended    what the executions stand for at a machine
--     split_made e                   the split that a turn of e makes, if it does: its step, and the least member of each part
--     IsHeld m budget others ..      the states of these executions are out besides the others, and those go on or have ended
--     AreHeld                        that, besides some others
--     CanAdvance                     the execution's state can make each of these changes
--     Advanced                       an execution became one for each plan, among those that go on or that have ended
--     Counted                        and that was counted, with the variants that were tried for it
--     NotCounted                     nothing was counted but what was readied
--     HasStepped                     an execution made a change in its place, and that was counted
--     IsSettledThere                 it stayed where it is or has ended, as its turn came to this
--     Turned                         the execution at an index took its turn: it is replaced by its parts, with all that this counts
--     Refused                        its turn was refused: the executions are as they were, and no change was applied
use Rattle.std.specs.Prelude.{◌≡◌, ℕ, ◌+◌, ◌*◌, ◌^◌, ◌<◌, ◌≤◌, true, false, nat_lt, if◌then◌else◌, List, [], ◌∷◌, ◌++◌, length, map, slice_get, slice_index, Some}
use Rattle.std.specs.List.{All, filter, swap_remove}
use Rattle.std.specs.List.Sorted.{IsPermutation}
use Rattle.am_base.specs.declared.limits.TheConstants.{MAX_MUTANTS}
use Rattle.traces.specs.View.{View, Keeps, IsLive, IsKnown}
use Rattle.traces.specs.Trace.{Trial}
use Rattle.traces.specs.Configuration.{Execution, is_leader, parts, variants_of}
use Rattle.traces.specs.Counts.{RoseBy, RoseWithin, IsBetween}
use Rattle.exec_core.specs.Counted.{counts_of_turn}
use Rattle.exec_core.specs.Executions.{execution_of, state_numbers, goes_on}
use Rattle.exec_core.specs.Divided.{child_of}
use Rattle.exec_core.specs.Plans.{plan_weights}
use Rattle.exec_core.specs.Engines.{split_seen}
use Rattle.exec_core.specs.declared.execution.Execution.{Execution as Concrete}
use Rattle.exec_core.specs.declared.engine.Engine.{Engine}
use Rattle.exec_core.specs.declared.in_place.Taken.{Taken}
use Rattle.exec_core.specs.declared.in_place.Taken.TheVariants.{GoesOn, Ended, Parted}

module _ {S C : Type 0} (T : Trial S C) where
  abbrev pub split_made : Execution S → List (ℕ × List ℕ)
  split_made e = let leaders = filter (is_leader T e) e.members in if nat_lt 1 (length leaders) then (e.step, leaders) ∷ [] else []

module _ {M S W C : Type 0} (V : View M S W C) where
  abbrev pub executions_of : M → List (Concrete S) → List (Concrete S) → List (Execution W)
  executions_of m lives ended = map (execution_of V m) (lives ++ ended)

  pub record IsHeld (m : M) (budget : ℕ) (others : List ℕ) (lives ended : List (Concrete S)) : Type 0 where
    pub out : All (λ l. V.is_out m l.state) (lives ++ ended)
    pub numbers : IsPermutation (V.out_numbers m) (state_numbers V (lives ++ ended) ++ others)
    pub live : All (λ l. goes_on V m budget l ≡ true) lives
    pub over : All (λ l. goes_on V m budget l ≡ false) ended

  pub record AreHeld (m : M) (budget : ℕ) (lives ended : List (Concrete S)) : Type 0 where
    pub others : List ℕ
    pub held : IsHeld m budget others lives ended

  -- the execution can make these changes
  pub record CanAdvance (m : M) (e : Concrete S) (plans : List (List ℕ × C)) : Type 0 where
    pub out : V.is_out m e.state
    pub live : IsLive V m e.state
    pub step : e.step + 1 < 2 ^ 64
    pub few : length plans ≤ MAX_MUTANTS
    pub known : All (λ p. IsKnown (V.meanings m) (V.stands m e.state) p.1) plans
    pub light : plan_weights (V.meanings m).weight plans ≤ MAX_MUTANTS * 65536

  pub record Advanced (old new : M) (budget : ℕ) (e : Concrete S) (plans : List (List ℕ × C))
      (lives_before lives ended_before ended : List (Concrete S)) : Type 0 where
    pub live : List (Concrete S)
    pub over : List (Concrete S)
    pub lives_are : IsPermutation (lives_before ++ live) lives
    pub ended_are : ended ≡ ended_before ++ over
    pub all_live : All (λ l. goes_on V new budget l ≡ true) live
    pub all_over : All (λ l. goes_on V new budget l ≡ false) over
    pub out : All (λ l. V.is_out new l.state) (live ++ over)
    pub seen : IsPermutation (map (child_of V old e) plans) (map (execution_of V new) (live ++ over))
    pub numbers : IsPermutation (state_numbers V (live ++ over) ++ V.out_numbers old) (V.number e.state ∷ V.out_numbers new)
    pub keeps : Keeps V old new (V.number e.state ∷ [])

  pub record Counted (old new : M) (e : Concrete S) (plans : List (List ℕ × C)) (before after : Engine S C)
      (counted_before counted_after : ℕ) : Type 0 where
    pub meter : counted_after ≡ counted_before + length plans
    pub applied : (V.counts new).applied ≡ (V.counts old).applied + length plans
    pub weighed : (V.counts new).weighed ≡ (V.counts old).weighed + plan_weights (V.meanings old).weight plans
    pub readied : (V.counts new).readied ≡ (V.counts old).readied + plan_weights (V.meanings old).weight plans
    pub tried : (V.counts new).tried ≡ (V.counts old).tried
    pub asks : (port : ℕ) → (V.counts new).asks port ≡ (V.counts old).asks port
    pub tries : after.tries ≡ before.tries + length before.variants.items
    pub alone : after.alone ≡ before.alone + length e.members
    pub splits : map split_seen after.splits.items ≡ map split_seen before.splits.items
        ++ (if nat_lt 1 (length plans) then (e.step, map (λ p. slice_index p.0 0) plans) ∷ [] else [])

  pub record NotCounted (old new : M) (plans : List (List ℕ × C)) (counted_before counted_after : ℕ) : Type 0 where
    pub meter : counted_after ≡ counted_before
    pub applied : (V.counts new).applied ≡ (V.counts old).applied
    pub weighed : (V.counts new).weighed ≡ (V.counts old).weighed
    pub readied : IsBetween (V.counts old).readied (V.counts new).readied ((V.counts old).readied + plan_weights (V.meanings old).weight plans)
    pub tried : (V.counts new).tried ≡ (V.counts old).tried
    pub asks : (port : ℕ) → (V.counts new).asks port ≡ (V.counts old).asks port

  -- the execution made this change in its place
  pub record HasStepped (old new : M) (before : Concrete S) (change : C) (after : Concrete S) (counted_before counted_after : ℕ) : Type 0 where
    pub step : after.step ≡ before.step + 1
    pub members : after.members ≡ before.members
    pub number : V.number after.state ≡ V.number before.state
    pub out : V.is_out new after.state
    pub stands : V.stands new after.state ≡ (V.meanings old).after (V.stands old before.state) change
    pub out_numbers : V.out_numbers new ≡ V.out_numbers old
    pub keeps : Keeps V old new (V.number before.state ∷ [])
    pub counts : RoseBy (V.counts old) (V.counts new) (record {
      tried = 0;
      applied = 1;
      weighed = (V.meanings old).weight change;
      readied = (V.meanings old).weight change;
      asks = λ port. 0;
    })
    pub meter : counted_after ≡ counted_before + 1

  -- an execution stays where it is if it goes on, and else it has ended, and the last one took its place
  abbrev pub IsSettledThere : M → ℕ → ℕ → Concrete S → Taken → List (Concrete S) → List (Concrete S) → List (Concrete S) → List (Concrete S) → Type 0
  IsSettledThere m budget at e GoesOn lives_before lives ended_before ended =
      (goes_on V m budget e ≡ true) × (lives ≡ lives_before) × (ended ≡ ended_before)
  IsSettledThere m budget at e Ended lives_before lives ended_before ended =
      (goes_on V m budget e ≡ false) × (lives ≡ swap_remove lives_before at e) × (ended ≡ ended_before ++ e ∷ [])
  IsSettledThere m budget at e Parted lives_before lives ended_before ended = ⊥

  pub record Turned (T : Trial W C) (old new : M) (at : ℕ) (before after : Engine S C) (counted_before counted_after : ℕ) : Type 0 where
    pub turned : Concrete S
    pub there : slice_get before.lives.items at ≡ Some turned
    pub rest : List (Execution W)
    pub was : IsPermutation (executions_of old before.lives.items before.ended.items) (execution_of V old turned ∷ rest)
    pub is : IsPermutation (rest ++ parts T (execution_of V old turned)) (executions_of new after.lives.items after.ended.items)
    pub counts : RoseBy (V.counts old) (V.counts new) (counts_of_turn T (execution_of V old turned))
    pub meter : counted_after ≡ counted_before + length (parts T (execution_of V old turned))
    pub tries : after.tries ≡ before.tries + length (variants_of T (execution_of V old turned))
    pub alone : after.alone ≡ before.alone + length turned.members
    pub splits : map split_seen after.splits.items ≡ map split_seen before.splits.items ++ split_made T (execution_of V old turned)

  pub record Refused (T : Trial W C) (old new : M) (at : ℕ) (before after : Engine S C) (counted_before counted_after : ℕ) : Type 0 where
    pub refused : Concrete S
    pub there : slice_get before.lives.items at ≡ Some refused
    pub same : IsPermutation (executions_of old before.lives.items before.ended.items) (executions_of new after.lives.items after.ended.items)
    pub counts : RoseWithin (V.counts old) (V.counts new) (counts_of_turn T (execution_of V old refused))
    pub applied : (V.counts new).applied ≡ (V.counts old).applied
    pub weighed : (V.counts new).weighed ≡ (V.counts old).weighed
    pub meter : counted_after ≡ counted_before
