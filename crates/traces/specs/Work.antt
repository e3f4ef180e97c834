-- The work of an analysis, as counts of pairs (m, n): the change number n, from 0, of mutant m.
--     is_least m n        m is the least member of its class at n
--     is_first_try m n    m is the least of those in its class at n whose variant there is the same
--     total_cost f        the sum of f m n over all these pairs
--     steps               how many different prefixes the traces have, but for the empty one, each counted at its least mutant
--     tries               how many different variants the classes have, each counted at its least mutant
--     executions          how many different traces there are
--     alone               how many changes the mutants make, each by itself
--     load                the sum of the weights of the last changes of the prefixes counted by steps
--     asks p              the sum of the tolls of port p for the variants counted by tries
--     least_members       the members of the class of m at n that are the least of their class at n + 1, rising
--     splits              the classes whose members go on by two or more different changes, in order of n, then of the least member:
--                         n, and the least member of each part
use Rattle.std.specs.Prelude.{ℕ, ◌+◌, Bool, ◌&&◌, not, ◌==◌, nat_lt, if◌then◌else◌, List, [], ◌∷◌, length, slice_get}
use Rattle.std.specs.List.{list_any, sum_by, count_by, filter, flat_map}
use Rattle.std.specs.Option.{option_map_or}
use Rattle.std.specs.Cmp.Lexicographic.{pointwise}
use Rattle.traces.specs.Trace.{Trial, trace, state_at}
use Rattle.traces.specs.Together.{below, together, class_of}

module _ {S C : Type 0} (T : Trial S C) where
  abbrev pub variant_at : ℕ → ℕ → ℕ
  variant_at m n = T.variant m (T.meanings.place (state_at T m n))

  abbrev pub is_least : ℕ → ℕ → Bool
  is_least m n = not (list_any (λ k. together T k m n) (below m))

  abbrev pub is_first_try : ℕ → ℕ → Bool
  is_first_try m n = not (list_any (λ k. together T k m n && T.variant k (T.meanings.place (state_at T m n)) == variant_at m n) (below m))

  abbrev pub total_cost : (ℕ → ℕ → ℕ) → ℕ
  total_cost f = sum_by (λ m. sum_by (f m) (below (length (trace T m)))) (below T.mutants)

  abbrev pub steps : ℕ
  steps = total_cost (λ m n. if is_least m (n + 1) then 1 else 0)

  abbrev pub tries : ℕ
  tries = total_cost (λ m n. if is_first_try m n then 1 else 0)

  abbrev pub executions : ℕ
  executions = count_by (λ m. not (list_any (λ k. pointwise T.meanings.same (trace T k) (trace T m)) (below m))) (below T.mutants)

  abbrev pub alone : ℕ
  alone = sum_by (λ m. length (trace T m)) (below T.mutants)

  abbrev pub load : ℕ
  load = total_cost (λ m n. if is_least m (n + 1) then option_map_or T.meanings.weight (slice_get (trace T m) n) 0 else 0)

  abbrev pub asks : ℕ → ℕ
  asks port = total_cost (λ m n. if is_first_try m n then T.meanings.toll port (variant_at m n) (state_at T m n) else 0)

  abbrev pub least_members : ℕ → ℕ → List ℕ
  least_members m n = filter (λ k. is_least k (n + 1)) (class_of T m n)

  abbrev pub splits : List (ℕ × List ℕ)
  splits = flat_map (λ n. flat_map (λ m.
      if is_least m n && (nat_lt n (length (trace T m)) && nat_lt 1 (length (least_members m n))) then (n, least_members m n) ∷ [] else [])
      (below T.mutants)) (below T.budget)
