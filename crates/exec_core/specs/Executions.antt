-- Executions of the engine.
--     Concrete                     an execution as the engine holds it
--     execution_of m l             what the execution stands for at a machine
--     state_numbers ls             the numbers of the states of these executions
--     goes_on m budget l           its state hasn't ended, and its step is below the budget
--     applied_of m step p          what a child stands for once its change is applied
--     IsExecutionBack old new l k  the execution l came back as k: it is as it was
--     IsPutBack                    it stands among the others again
--     AreApplying                  of the children these are left, and those executions were made
--     AreApplied                   the children became executions at the end of the list, from the last child to the first
--     AreSettled m budget          these executions are the live ones and the ended ones, in any order
--     AreSettledAfter              and they stand behind those that stood in the two lists
use Rattle.std.specs.Prelude.{◌≡◌, ℕ, Bool, true, false, not, ◌&&◌, nat_lt, List, map, reverse, ◌++◌, nat_eq, [], ◌∷◌}
use Rattle.std.specs.List.{All, IsDistinct}
use Rattle.std.specs.List.Sorted.{IsPermutation}
use Rattle.traces.specs.View.{View, Keeps}
use Rattle.traces.specs.Configuration.{Execution}
use Rattle.exec_core.specs.Held.{IsBack}
use Rattle.exec_core.specs.Children.{IsReadied, numbers_of}
use Rattle.exec_core.specs.declared.divide.Child.{Child}
use Rattle.exec_core.specs.declared.execution.Execution.{Execution as Concrete}

module _ {M S W C : Type 0} (V : View M S W C) where
  abbrev pub execution_of : M → Concrete S → Execution W
  execution_of m l = record { step = l.step; members = l.members; state = V.stands m l.state }

  abbrev pub state_numbers : List (Concrete S) → List ℕ
  state_numbers ls = map (λ l. V.number l.state) ls

  abbrev pub goes_on : M → ℕ → Concrete S → Bool
  goes_on m budget l = not ((V.meanings m).ended (V.stands m l.state)) && nat_lt l.step budget

  abbrev pub applied_of : M → ℕ → Child S C → Execution W
  applied_of m step p = record { step = step; members = p.members; state = (V.meanings m).after (V.stands m p.state) p.change }

  pub record IsExecutionBack (old new : M) (l k : Concrete S) : Type 0 where
    pub step : k.step ≡ l.step
    pub members : k.members ≡ l.members
    pub state : IsBack V old new l.state k.state

  pub record IsPutBack (old new : M) (l : Concrete S) (lives_before lives : List (Concrete S)) : Type 0 where
    pub back : Concrete S
    pub is : IsExecutionBack old new l back
    pub lives_are : IsPermutation (lives_before ++ back ∷ []) lives

  -- these children are left, and those executions were made
  pub record AreApplying (old new : M) (step : ℕ) (all rest : List (Child S C)) (made : List (Concrete S)) : Type 0 where
    pub left : All (IsReadied V new) rest
    pub out : All (λ l. V.is_out new l.state) made
    pub seen : map (applied_of new step) rest ++ reverse (map (execution_of new) made) ≡ map (applied_of old step) all
    pub numbers : numbers_of V rest ++ reverse (state_numbers made) ≡ numbers_of V all
    pub distinct : IsDistinct nat_eq (numbers_of V rest ++ state_numbers made)
    pub out_numbers : V.out_numbers new ≡ V.out_numbers old
    pub keeps : Keeps V old new (numbers_of V all)

  pub record AreApplied (old new : M) (step : ℕ) (all : List (Child S C)) (before after : List (Concrete S)) : Type 0 where
    pub made : List (Concrete S)
    pub added : after ≡ before ++ made
    pub applied : AreApplying old new step all [] made

  pub record AreSettled (m : M) (budget : ℕ) (all lives ended : List (Concrete S)) : Type 0 where
    pub moved : IsPermutation all (lives ++ ended)
    pub live : All (λ l. goes_on m budget l ≡ true) lives
    pub over : All (λ l. goes_on m budget l ≡ false) ended

  pub record AreSettledAfter (m : M) (budget : ℕ) (all lives_before lives ended_before ended : List (Concrete S)) : Type 0 where
    pub live : List (Concrete S)
    pub over : List (Concrete S)
    pub lives_are : lives ≡ lives_before ++ live
    pub ended_are : ended ≡ ended_before ++ over
    pub settled : AreSettled m budget all live over
