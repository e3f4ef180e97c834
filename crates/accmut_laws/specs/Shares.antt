-- Which mutants share an execution in the course of a run.
--     IsWhole      after these turns no execution is live
--     Share m k n  after some of these turns, m and k are members of one execution at step n
use Rattle.std.specs.Prelude.{◌≡◌, ℕ, false, List, take}
use Rattle.std.specs.List.{All, Contains}
use Rattle.traces.specs.Trace.{Trial}
use Rattle.traces.specs.Configuration.{Execution, is_live, run, opening}

module _ {S C : Type 0} (T : Trial S C) (turns : List ℕ) where
  abbrev pub IsWhole : Type 0
  IsWhole = All (λ e. is_live T e ≡ false) (run T (opening T) turns)

  pub record Share (m k n : ℕ) : Type 0 where
    pub moment : ℕ
    pub execution : Execution S
    pub there : Contains (run T (opening T) (take moment turns)) execution
    pub step : execution.step ≡ n
    pub member : Contains execution.members m
    pub other : Contains execution.members k
