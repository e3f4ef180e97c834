-- What a configuration has cost, where the change number n of mutant m costs f m n.
--     cost_so_far f es    the sum of the costs of the changes that the members of these executions have made
--     cost_of_turn f e    the sum of the costs of the next changes of the members of e
--     step_cost, try_cost, load_cost, asks_cost p    the costs of which steps, tries, load and asks p are the totals
--     same_split          whether two splits are equal
--     splits_at m n       the split that mutant m leads at n, if it does
--     split_cost x        the cost whose total says how often x is among the splits
use Rattle.std.specs.Prelude.{ℕ, ◌+◌, Bool, ◌&&◌, ◌==◌, nat_eq, nat_lt, List, [], ◌∷◌, length, if◌then◌else◌, slice_get}
use Rattle.std.specs.Option.{option_map_or}
use Rattle.std.specs.List.{sum_by, count_by}
use Rattle.std.specs.Cmp.Lexicographic.{pointwise}
use Rattle.traces.specs.Trace.{Trial, trace, state_at}
use Rattle.traces.specs.Together.{below}
use Rattle.traces.specs.Work.{is_least, is_first_try, variant_at, least_members}
use Rattle.traces.specs.Configuration.{Execution}

module _ {S : Type 0} (f : ℕ → ℕ → ℕ) where
  unfoldable pub cost_so_far : List (Execution S) → ℕ
  cost_so_far es = sum_by (λ e. sum_by (λ m. sum_by (f m) (below e.step)) e.members) es

  abbrev pub cost_of_turn : Execution S → ℕ
  cost_of_turn e = sum_by (λ m. f m e.step) e.members

abbrev pub same_split : ℕ × List ℕ → ℕ × List ℕ → Bool
same_split x y = x.0 == y.0 && pointwise nat_eq x.1 y.1

module _ {S C : Type 0} (T : Trial S C) where
  abbrev pub step_cost : ℕ → ℕ → ℕ
  step_cost m n = if is_least T m (n + 1) then 1 else 0

  abbrev pub try_cost : ℕ → ℕ → ℕ
  try_cost m n = if is_first_try T m n then 1 else 0

  abbrev pub load_cost : ℕ → ℕ → ℕ
  load_cost m n = if is_least T m (n + 1) then option_map_or T.meanings.weight (slice_get (trace T m) n) 0 else 0

  abbrev pub asks_cost : ℕ → ℕ → ℕ → ℕ
  asks_cost port m n = if is_first_try T m n then T.meanings.toll port (variant_at T m n) (state_at T m n) else 0

  abbrev pub splits_at : ℕ → ℕ → List (ℕ × List ℕ)
  splits_at m n = if is_least T m n && (nat_lt n (length (trace T m)) && nat_lt 1 (length (least_members T m n))) then (n, least_members T m n) ∷ [] else []

  abbrev pub split_cost : ℕ × List ℕ → ℕ → ℕ → ℕ
  split_cost x m n = count_by (same_split x) (splits_at m n)
