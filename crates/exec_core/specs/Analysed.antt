-- What an analysis comes to.
--     IsGoing       after some turns: the executions are a configuration of the trial, and all counts are those of the changes made so far
--     IsStopped     after a refusal: the states of the executions that are left are out, no count rose above its total, and the meter
--                   rose by as much as the changes applied
--     class_from    the class that an execution has become
--     end_of        what a class of an analysis stands for: its members, and the step and state at the end of their traces
--     class_numbers the numbers of the states of these classes
--     AreClasses    each mutant is in exactly one of these classes, each is the mutants of one whole trace with its length and the state after
--                   it, and they stand in order of least member
use Rattle.std.specs.Prelude.{◌≡◌, ℕ, ◌+◌, List, [], ◌∷◌, map, slice_index}
use Rattle.std.specs.List.{All, count_by, flat_map}
use Rattle.std.specs.List.Sorted.{IsPermutation, IsNonDecreasingBy}
use Rattle.traces.specs.View.{View, Keeps}
use Rattle.traces.specs.Trace.{Trial}
use Rattle.traces.specs.Together.{below}
use Rattle.traces.specs.Work.{steps}
use Rattle.traces.specs.Configuration.{Execution, IsConfiguration}
use Rattle.traces.specs.Cost.{cost_so_far, step_cost, try_cost, same_split, split_cost}
use Rattle.traces.specs.Counts.{RoseBy, RoseWithin, IsBetween}
use Rattle.exec_core.specs.Counted.{counts_so_far, totals}
use Rattle.traces.specs.Ends.{IsEnd}
use Rattle.exec_core.specs.Engines.{split_seen}
use Rattle.exec_core.specs.Turned.{executions_of, IsHeld}
use Rattle.exec_core.specs.declared.engine.Engine.{Engine}
use Rattle.exec_core.specs.declared.execution.Execution.{Execution as Concrete}
use Rattle.exec_core.specs.declared.result.Class.{Class}

abbrev pub class_from : {S : Type 0} → Concrete S → Class S
class_from l = record { state = l.state; members = l.members; length = l.step }

module _ {M S W C : Type 0} (V : View M S W C) where
  pub record IsGoing (T : Trial W C) (old new : M) (start : ℕ) (engine : Engine S C) (counted_before counted : ℕ) : Type 0 where
    pub held : (others : List ℕ) → IsPermutation (V.out_numbers old) (start ∷ others) → IsHeld V new T.budget others engine.lives.items engine.ended.items
    pub keeps : Keeps V old new (start ∷ [])
    pub config : IsConfiguration T (executions_of V new engine.lives.items engine.ended.items)
    pub counts : RoseBy (V.counts old) (V.counts new) (counts_so_far T (executions_of V new engine.lives.items engine.ended.items))
    pub meter : counted ≡ counted_before + cost_so_far (step_cost T) (executions_of V new engine.lives.items engine.ended.items)
    pub tries : engine.tries ≡ cost_so_far (try_cost T) (executions_of V new engine.lives.items engine.ended.items)
    pub alone : engine.alone ≡ cost_so_far (λ m n. 1) (executions_of V new engine.lives.items engine.ended.items)
    pub splits : (x : ℕ × List ℕ) → count_by (same_split x) (map split_seen engine.splits.items)
        ≡ cost_so_far (split_cost T x) (executions_of V new engine.lives.items engine.ended.items)

  pub record IsStopped (T : Trial W C) (old new : M) (start : ℕ) (engine : Engine S C) (counted_before counted : ℕ) : Type 0 where
    pub held : (others : List ℕ) → IsPermutation (V.out_numbers old) (start ∷ others) → IsHeld V new T.budget others engine.lives.items engine.ended.items
    pub keeps : Keeps V old new (start ∷ [])
    pub counts : RoseWithin (V.counts old) (V.counts new) (totals T)
    pub meter : IsBetween counted_before counted (counted_before + steps T)
    pub beside : counted + (V.counts old).applied ≡ counted_before + (V.counts new).applied

  abbrev pub end_of : M → Class S → Execution W
  end_of m c = record { step = c.length; members = c.members; state = V.stands m c.state }

  abbrev pub class_numbers : List (Class S) → List ℕ
  class_numbers classes = map (λ c. V.number c.state) classes

  pub record AreClasses (T : Trial W C) (m : M) (classes : List (Class S)) : Type 0 where
    pub once : IsPermutation (below T.mutants) (flat_map (λ c. c.members) classes)
    pub each : All (λ c. IsEnd T (end_of m c)) classes
    pub rising : IsNonDecreasingBy (λ c. slice_index c.members 0) classes
    pub out : All (λ c. V.is_out m c.state) classes
