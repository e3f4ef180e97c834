-- One execution divided by its plans.
use Rattle.std.specs.Prelude.{◌≡◌, ℕ, ◌+◌, List, map, [], ◌∷◌, ◌++◌}
use Rattle.std.specs.List.{All}
use Rattle.std.specs.List.Sorted.{IsPermutation}
use Rattle.traces.specs.View.{View, Keeps}
use Rattle.traces.specs.Configuration.{Execution}
use Rattle.exec_core.specs.Executions.{execution_of, state_numbers}
use Rattle.exec_core.specs.declared.execution.Execution.{Execution as Concrete}

module _ {M S W C : Type 0} (V : View M S W C) where
  -- what a plan makes of an execution
  abbrev pub child_of : M → Concrete S → List ℕ × C → Execution W
  child_of m e x = record { step = e.step + 1; members = x.0; state = (V.meanings m).after (V.stands m e.state) x.1 }

  pub record Divided (old : M) (e : Concrete S) (new : M) (plans : List (List ℕ × C)) (before after : List (Concrete S)) : Type 0 where
    pub made : List (Concrete S)
    pub added : after ≡ before ++ made
    pub out : All (λ l. V.is_out new l.state) made
    pub seen : IsPermutation (map (child_of old e) plans) (map (execution_of V new) made)
    pub numbers : IsPermutation (state_numbers V made ++ V.out_numbers old) (V.number e.state ∷ V.out_numbers new)
    pub keeps : Keeps V old new (V.number e.state ∷ [])
