-- Configurations of executions, and runs of turns.
--     Execution          a step, its members and a state
--     opening            one execution: all mutants at the start
--     is_live e          its state hasn't ended, and its step is below the budget
--     same_change        whether two members make the same change
--     is_leader          no lower member makes the same change as this one
--     part e m           the members that make the change of m, one step on, in the state after that change
--     parts e            one part for each different change of the members, in order of least member
--     is_first_try_of    no lower member has the variant that this one has at the state's place
--     variants_of e      the different variants of the members at the state's place, each by its least member
--     turn es i          the execution at place i, if it is live, is replaced by its parts
--     run es is          a turn at each of these places
--     IsExecution        the members are exactly a class at the step, and the state is that of each of them there
--     IsConfiguration    each mutant is a member of exactly one execution, and each is such an execution
use Rattle.std.specs.Prelude.{◌≡◌, ℕ, ◌+◌, ◌≤◌, ◌<◌, Bool, ◌&&◌, not, nat_lt, ◌==◌, if◌then◌else◌, List, [], ◌∷◌, ◌++◌, length, map, slice_get, Option, Some}
use Rattle.std.specs.Prelude.{None}
use Rattle.std.specs.List.{filter, list_any, remove, flat_map, All, Contains}
use Rattle.std.specs.List.Sorted.{IsPermutation}
use Rattle.traces.specs.Trace.{Trial, change_of, trace, state_at}
use Rattle.traces.specs.Together.{below, class_of}

pub record Execution (S : Type 0) : Type 0 where
  pub step : ℕ
  pub members : List ℕ
  pub state : S

module _ {S C : Type 0} (T : Trial S C) where
  abbrev pub opening : List (Execution S)
  opening = record { step = 0; members = below T.mutants; state = T.start } ∷ []

  abbrev pub is_live : Execution S → Bool
  is_live e = not (T.meanings.ended e.state) && nat_lt e.step T.budget

  abbrev pub same_change : Execution S → ℕ → ℕ → Bool
  same_change e m k = T.meanings.same (change_of T m e.state) (change_of T k e.state)

  abbrev pub is_leader : Execution S → ℕ → Bool
  is_leader e m = not (list_any (λ k. nat_lt k m && same_change e k m) e.members)

  abbrev pub part : Execution S → ℕ → Execution S
  part e m = record { step = e.step + 1; members = filter (same_change e m) e.members; state = T.meanings.after e.state (change_of T m e.state) }

  abbrev pub parts : Execution S → List (Execution S)
  parts e = map (part e) (filter (is_leader e) e.members)

  abbrev pub variant_in : Execution S → ℕ → ℕ
  variant_in e m = T.variant m (T.meanings.place e.state)

  abbrev pub is_first_try_of : Execution S → ℕ → Bool
  is_first_try_of e m = not (list_any (λ k. nat_lt k m && variant_in e k == variant_in e m) e.members)

  abbrev pub variants_of : Execution S → List ℕ
  variants_of e = map (variant_in e) (filter (is_first_try_of e) e.members)

  abbrev pub turn_of : List (Execution S) → ℕ → Option (Execution S) → List (Execution S)
  turn_of es i None = es
  turn_of es i (Some e) = if is_live e then remove es i ++ parts e else es

  abbrev pub turn : List (Execution S) → ℕ → List (Execution S)
  turn es i = turn_of es i (slice_get es i)

  abbrev pub run : List (Execution S) → List ℕ → List (Execution S)
  run es [] = es
  run es (i ∷ is) = run (turn es i) is

  pub record IsExecution (e : Execution S) : Type 0 where
    pub some : 0 < length e.members
    pub reached : (m : ℕ) → Contains e.members m → e.step ≤ length (trace T m)
    pub class : (m : ℕ) → Contains e.members m → e.members ≡ class_of T m e.step
    pub state : (m : ℕ) → Contains e.members m → e.state ≡ state_at T m e.step

  pub record IsConfiguration (es : List (Execution S)) : Type 0 where
    pub once : IsPermutation (below T.mutants) (flat_map (λ e. e.members) es)
    pub each : All IsExecution es
